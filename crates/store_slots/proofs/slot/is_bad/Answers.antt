-- `slot::is_bad` meets its contract.
use Rattle.store_slots.specs.Slots.{bad_slot}
use Rattle.store_slots.proofs.slot.is_bad.Goals as goal

pub returns-then-is_free : goal.returns-then-is_free
unfolding bad_slot
returns-then-is_free c = rw (← c.is_free.ensures, c.if-is_free.true)

pub returns : goal.returns
unfolding bad_slot
returns c = rw (← c.is_free.ensures, c.if-is_free.false, ← c.record_from.ensures, ← c.is_readable.ensures)
