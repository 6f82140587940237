-- `across::step` meets its contract.
use native.Mathlib.Omega.{arith}
use Rattle.blur.proofs.PassLaws.{line-holds, lower-inside, upper_inside, map-most, column_place, across-more, across_two}
use Rattle.blur.proofs.across.step.Goals as goal

pub overflow_mul-lo : goal.overflow_mul-lo
overflow_mul-lo c = let m = c.requires.map in omega (arith, map-most m, lower-inside m _ c.lower.ensures)

pub overflow_mul-hi : goal.overflow_mul-hi
overflow_mul-hi c = let m = c.requires.map in omega (arith, map-most m, upper_inside m _ c.upper.ensures)

pub overflow_mul-lo2 : goal.overflow_mul-lo2
overflow_mul-lo2 c = let m = c.requires.map in omega (arith, map-most m, lower-inside m _ c.lower-then-u-k.ensures)

pub overflow_mul-hi2 : goal.overflow_mul-hi2
overflow_mul-hi2 c = let m = c.requires.map in omega (arith, map-most m, upper_inside m _ c.upper-then-u-k.ensures)

pub add_two-requires : goal.add_two-requires
add_two-requires c =
    let p = c.requires in
    record { n_in_bounds = lower-inside p.map _ c.lower.ensures; n_in_bounds_2 = upper_inside p.map _ c.upper.ensures; n_in_bounds_3 = lower-inside p.map _ c.lower-then-u-k.ensures; n_in_bounds_4 = upper_inside p.map _ c.upper-then-u-k.ensures; n_in_bounds_5 = omega (arith, p.map.rows-most, p.holds.long) }

pub returns-then-u-k : goal.returns-then-u-k
returns-then-u-k c =
    let a = c.args in
    let p = c.requires in
    record {
      more = omega arith;
      most = c.if-u-k.true;
      holds = line-holds _ _ p.holds.long p.map.rows-most c.add_two.ensures
          (λ r less. across_two _ _ _ _ _ _ a.t _ _ _ _ r (p.holds.float r less) (column_place _ c.lower.ensures) (column_place _ c.upper.ensures) (column_place _ c.lower-then-u-k.ensures) (column_place _ c.upper-then-u-k.ensures));
    }

pub add-requires : goal.add-requires
add-requires c =
    let p = c.requires in
    record { n_in_bounds = lower-inside p.map _ c.lower.ensures; n_in_bounds_2 = upper_inside p.map _ c.upper.ensures; n_in_bounds_3 = omega (arith, p.map.rows-most, p.holds.long) }

pub returns : goal.returns
returns c =
    let a = c.args in
    let p = c.requires in
    record {
      more = omega arith;
      most = omega (arith, p.t_lt_radius);
      holds = line-holds _ _ p.holds.long p.map.rows-most c.add.ensures
          (λ r less. across-more _ _ _ _ _ _ a.t _ _ r (p.holds.float r less) (column_place _ c.lower.ensures) (column_place _ c.upper.ensures));
    }
