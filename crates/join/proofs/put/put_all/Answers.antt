-- `put::put_all` meets its contract. What is left to store gives the whole buffer.
use native.Mathlib.Omega.{arith}
use mathlib.Core.Path.{refl, sym, ◌∙◌}
use Rattle.join.proofs.SizedLaws.{place_inside, stored-start, stored_next, stored_end}
use Rattle.join.proofs.put.put_all.Goals as goal

pub loop-i-init : goal.loop-i-init
loop-i-init g c = (omega arith, (refl, stored-start _ _ _ _ _))

pub record_in-requires : goal.record_in-requires
record_in-requires g c = rw (← c.count_of-count.ensures) (omega arith)

pub put_in-requires : goal.put_in-requires
put_in-requires g c =
    let all = c.requires in
    let l = c.loop-i in
    let count = c.count_of-count in
    record {
      old_in_bounds = rw l.invariant.1.0 (place_inside g.F.Form.is_old l.i count.result _ (omega arith) (rw count.ensures all.enough));
      placed = rw c.record_in.ensures (all.placed l.i (rw (← count.ensures) (omega arith)));
    }

pub loop-i-smaller : goal.loop-i-smaller
loop-i-smaller g c = omega arith

pub loop-i-preserved : goal.loop-i-preserved
loop-i-preserved g c =
    let l = c.loop-i in
    let stored = rw c.record_in.ensures at c.put_in.ensures in
    (omega arith, (omega (arith, l.invariant.1.0), l.invariant.1.1 ∙ stored_next _ _ _ _ _ l.i (omega arith) stored))

pub shape_of-out : goal.shape_of-out
shape_of-out g c = c.loop-i.invariant.1.0

pub returns : goal.returns
returns g c = let l = c.loop-i in rw (← c.count_of-count.ensures) (refl, sym (l.invariant.1.1 ∙ stored_end _ _ _ _ _ l.i (omega arith)))
