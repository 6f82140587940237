-- `pass::step` meets its contract: the column's lines first, then the marks of the one before it.
use Prim.Native.Nat.{◌+◌, ◌*◌, ◌%◌}
use native.Mathlib.Omega.{arith}
use Rattle.samples.specs.Map.{maps_in}
use Rattle.sweep.proofs.ReadLaws.{a_column, column_small, reach_map, filled_map}
use Rattle.sweep.proofs.PassLaws.{under-kept, before-first, before-next}
use Rattle.sweep.proofs.pass.step.Goals as goal

pub overflow_mul-mid : goal.overflow_mul-mid
overflow_mul-mid c = let sized = c.args.map.now.sized in omega (arith, column_small c.args.col sized (omega arith))

pub overflow_add-mid : goal.overflow_add-mid
overflow_add-mid c = let sized = c.args.map.now.sized in omega (arith, sized.rows-most, column_small c.args.col sized (omega arith))

pub overflow_add-mid-2 : goal.overflow_add-mid-2
overflow_add-mid-2 c = let sized = c.args.map.now.sized in omega (arith, sized.rows-most, column_small c.args.col sized (omega arith))

pub overflow_sub-mid : goal.overflow_sub-mid
overflow_sub-mid c = let s = c.args in let p = c.requires in omega (arith, a_column s.map.now.frame.rows s.col (omega arith))

pub overflow_add-mid-3 : goal.overflow_add-mid-3
overflow_add-mid-3 c = let sized = c.args.map.now.sized in omega (arith, sized.rows-most, column_small c.args.col sized (omega arith))

pub column-any-requires : goal.column-any-requires
column-any-requires c =
    let s = c.args in
    let p = c.requires in
    let low = p.le_col.0 in
    let high = p.le_col.1 in
    let inside = p.n_bound.0 in
    let sized = s.map.now.sized in
    record {
      n_bound = (omega arith, omega arith);
      reach = (
        (reach_map _ s.j s.n s.col sized sized.long0 low high inside, reach_map _ s.j s.n s.col sized sized.long1 low high inside),
        (reach_map _ s.j s.n s.col sized sized.long2 low high inside, reach_map _ s.j s.n s.col sized sized.long3 low high inside),
      );
    }

pub returns-then-col-lt5 : goal.returns-then-col-lt5
returns-then-col-lt5 c =
    let s = c.args in
    let p = c.requires in
    let m = maps_in s.map.now in
    let filled = filled_map m s.j (s.n + 2) s.col (s.col % 3 * 260) c.column-any.result _ _ _ _ _ _ _ _ _ _ _ _ _ _ (omega arith) c.column-any.ensures in
    before-first m s.j s.n s.col s.before c.column-any.result _ _ _ _ _ _ _ _ _ _ _ _ _ _ _ p.n_bound.1 p.le_col.0 p.before filled c.if-col-lt5.true

pub overflow_add-col : goal.overflow_add-col
overflow_add-col c = let sized = c.args.map.now.sized in omega (arith, sized.cols-most)

pub overflow_add-col-2 : goal.overflow_add-col-2
overflow_add-col-2 c = let sized = c.args.map.now.sized in omega (arith, sized.cols-most)

pub mark-requires : goal.mark-requires
mark-requires c =
    let s = c.args in
    let p = c.requires in
    let m = maps_in s.map.now in
    let filled = filled_map m s.j (s.n + 2) s.col (s.col % 3 * 260) c.column-any.result _ _ _ _ _ _ _ _ _ _ _ _ _ _ (omega arith) c.column-any.ensures in
    record {
      x_bound = (omega arith, omega arith);
      z_bound = (omega arith, p.n_bound.1);
      col_bound = omega (arith, c.args.map.now.sized.cols-most);
      by_index = under-kept m s.j s.n s.col s.before c.column-any.result _ _ _ _ _ _ _ _ _ _ _ _ _ _ _ p.n_bound.1 p.le_col.0 p.before filled (omega (arith, c.if-col-lt5.false));
    }

pub returns : goal.returns
returns c =
    let s = c.args in
    let p = c.requires in
    let m = maps_in s.map.now in
    let filled = filled_map m s.j (s.n + 2) s.col (s.col % 3 * 260) c.column-any.result _ _ _ _ _ _ _ _ _ _ _ _ _ _ (omega arith) c.column-any.ensures in
    before-next m s.j s.n s.col s.before c.column-any.result _ _ _ _ _ _ _ _ _ _ _ _ _ _ _ p.n_bound.1 p.le_col.0 p.before filled _ c.if-col-lt5.false (omega (arith, c.args.map.now.sized.cols-most)) c.mark.ensures
