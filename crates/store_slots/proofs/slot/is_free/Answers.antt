-- `slot::is_free` meets its contract.
use Rattle.store_slots.specs.Slots.{is_free}
use Rattle.store_slots.proofs.ByteLaws.{same_pointwise}
use Rattle.store_slots.proofs.slot.is_free.Goals as goal

pub returns : goal.returns
unfolding is_free
returns c = rw (same_pointwise, ← c.free_bytes.ensures, ← c.as_slice.ensures) c.eq.ensures
