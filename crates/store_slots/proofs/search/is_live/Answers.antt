-- `search::is_live` meets its contract.
use Prim.Native.Nat.{◌*◌}
use native.Mathlib.Omega.{arith}
use mathlib.Core.Path.{ap, ◌∙◌}
use mathlib.Core.Bool.{not}
use Rattle.record.specs.Layout.{spot_width}
use Rattle.store_slots.specs.Slots.{is_free, free_bytes}
use Rattle.store_slots.proofs.SlotLaws.{part_slot, past-free, slot_is}
use Rattle.store_slots.proofs.search.is_live.Goals as goal

pub returns-then-b-i : goal.returns-then-b-i
returns-then-b-i c = let a = c.args in rw (past-free a.b.now a.i (omega (arith, c.if-b-i.true)))

pub returns : goal.returns
returns c =
    let a = c.args in
    ap not (c.is_free.ensures ∙ ap is_free (part_slot a.b.now (a.i * spot_width) ∙ slot_is a.b.now a.i free_bytes (omega arith)))
