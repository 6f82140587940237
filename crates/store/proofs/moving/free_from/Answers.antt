-- `moving::free_from` meets its contract.
use Prim.Native.Nat.{◌*◌}
use native.Mathlib.Omega.{arith}
use mathlib.Core.Path.{refl, sym, ap, ◌∙◌}
use lib.ListN.{length}
use lib.Seq.{sets, take_all}
use Rattle.record.specs.Layout.{spot_width}
use Rattle.store.specs.Steps.{Whole}
use Rattle.store_slots.proofs.SlotLaws.{length-free}
use Rattle.store.proofs.MovingLaws.{freed-next, freed_end}
use Rattle.store.proofs.moving.free_from.Goals as goal

pub loop-k-init : goal.loop-k-init
loop-k-init c = (refl, refl)

pub put_first-requires : goal.put_first-requires
put_first-requires c =
    let l = c.loop-k in
    record { n_in_bounds = omega (arith, ap length c.free_bytes-free.ensures, length-free); n_in_bounds_2 = omega (arith, l.invariant.0) }

pub loop-k-preserved : goal.loop-k-preserved
loop-k-preserved c =
    let l = c.loop-k in
    let pre = c.requires in
    let whole : Whole l.b = rw l.invariant.0 pre in
    let free = c.free_bytes-free.ensures in
    let bytes = take_all spot_width _ (omega (arith, ap length free, length-free)) ∙ free in
    let stored = c.put_first.ensures ∙ ap (sets l.b (l.k * spot_width)) bytes in
    (omega (arith, c.put_first.auto.out, l.invariant.0), l.invariant.1 ∙ sym (freed-next l.b l.k whole (omega (arith, l.invariant.0))) ∙ rw stored)

pub shape_of-b : goal.shape_of-b
shape_of-b c = c.loop-k.invariant.0

pub returns : goal.returns
returns c =
    let l = c.loop-k in
    let whole : Whole l.b = rw l.invariant.0 c.requires in
    sym (l.invariant.1 ∙ freed_end l.b l.k whole (omega (arith, l.invariant.0)))
