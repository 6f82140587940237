-- `moving::move_down` meets its contract.
use Prim.Native.Nat.{◌*◌}
use native.Mathlib.Omega.{arith}
use mathlib.Core.Path.{sym, ap, ◌∙◌}
use lib.ListN.{length}
use lib.Seq.{sets, take_all}
use Rattle.record.specs.Layout.{spot_width}
use Rattle.store_slots.proofs.SlotLaws.{slot_is, slot-long}
use Rattle.store.proofs.MovingLaws.{moved-free, moved-live}
use Rattle.store.proofs.moving.move_down.Goals as goal

pub returns-then-is_free : goal.returns-then-is_free
returns-then-is_free c =
    let a = c.args in
    moved-free a.b.now a.i a.n (rw (← slot_is a.b.now a.i _ (omega arith), ← c.bytes_at-s.ensures) (sym c.is_free.ensures ∙ c.if-is_free.true))

pub returns : goal.returns
returns c =
    let a = c.args in
    let s = c.bytes_at-s in
    let long = ap length s.ensures ∙ slot-long a.b.now a.i (omega arith) in
    let own = s.ensures ∙ slot_is a.b.now a.i _ (omega arith) in
    moved-live a.b.now a.i a.n s.result _ c.requires.whole (omega arith) long own (sym c.is_free.ensures ∙ c.if-is_free.false) (c.put_first.ensures ∙ ap (sets a.b.now (a.n * spot_width)) (take_all spot_width s.result (omega (arith, long))))
