-- `column_spots` meets its contract. The loop's invariant: what the first i judged pixels list is laid.
use mathlib.Core.Path.{◌≡◌, subst}
use Prim.Native.Nat.{ℕ, ◌-◌, ◌<◌}
use native.Mathlib.Numerals.{add-one}
use native.Mathlib.Omega.{arith}
use Rattle.record.proofs.LayoutLaws.{laid_none, laid-append, laid-length}
use Rattle.samples.specs.Map.{four_in}
use Rattle.ring.specs.Ring.{column_spots}
use Rattle.ring.proofs.SpotsLaws.{column_short, height-some, height-most}
use Rattle.spots.proofs.column_spots.Goals as goal

pub loop-i-init : goal.loop-i-init
unfolding column_spots
loop-i-init c = laid_none

pub overflow_add-i : goal.overflow_add-i
overflow_add-i c =
    let a = c.args in
    let p = c.requires in
    omega (arith, p.n_value, height-most a.column.now.state, a.column.now.lent.rows-most)

pub bounds-marks-i : goal.bounds-marks-i
bounds-marks-i c =
    let a = c.args in
    let p = c.requires in
    omega (arith, p.n_value, height-most a.column.now.state, a.column.now.lent.rows-most)

pub marked_spots-m-requires : goal.marked_spots-m-requires
marked_spots-m-requires c =
    let a = c.args in
    let p = c.requires in
    let l = c.loop-i in
    let room = height-some a.column.now.state l.i (subst (λ (n : ℕ). l.i < n) p.n_value c.loop-i-test.true) in
    let short = column_short a.column.now.state (four_in a.column.now.ring) (four_in a.column.now.given) (a.column.now.state.position - 2) l.i in
    record {
      le_position = room.0;
      n_bound = omega (arith, l.invariant.count, room.2, a.column.now.lent.rows-most, short);
      le_row = (omega arith, omega (arith, room.2));
      position_value = p.ruled.ruled l.i c.loop-i-test.true;
    }

pub loop-i-smaller : goal.loop-i-smaller
loop-i-smaller c = omega arith

pub loop-i-preserved : goal.loop-i-preserved
unfolding column_spots
loop-i-preserved c = rw add-one (laid-append c.loop-i.invariant c.marked_spots-m.ensures)

pub shape_of-out : goal.shape_of-out
shape_of-out c = laid-length c.loop-i.invariant

pub returns : goal.returns
returns c = let e : c.loop-i.i ≡ c.args.n = omega arith in rw e at c.loop-i.invariant
