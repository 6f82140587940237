-- `across::step_both` meets its contract.
use native.Mathlib.Omega.{arith}
use Rattle.blur.proofs.PassLaws.{line-holds, lower-inside, upper_inside, map-most, column_place, across_two}
use Rattle.blur.proofs.across.step_both.Goals as goal

pub overflow_mul-lo : goal.overflow_mul-lo
overflow_mul-lo c = let m = c.requires.map in omega (arith, map-most m, lower-inside m _ c.lower.ensures)

pub overflow_mul-hi : goal.overflow_mul-hi
overflow_mul-hi c = let m = c.requires.map in omega (arith, map-most m, upper_inside m _ c.upper.ensures)

pub overflow_mul-lo2 : goal.overflow_mul-lo2
overflow_mul-lo2 c = let m = c.requires.map in omega (arith, map-most m, lower-inside m _ c.lower-2.ensures)

pub overflow_mul-hi2 : goal.overflow_mul-hi2
overflow_mul-hi2 c = let m = c.requires.map in omega (arith, map-most m, upper_inside m _ c.upper-2.ensures)

pub add_both-requires : goal.add_both-requires
add_both-requires c =
    let p = c.requires in
    record { n_in_bounds = lower-inside p.map _ c.lower.ensures; n_in_bounds_2 = upper_inside p.map _ c.upper.ensures; n_in_bounds_3 = lower-inside p.map _ c.lower-2.ensures; n_in_bounds_4 = upper_inside p.map _ c.upper-2.ensures; n_bound = p.map.rows-most; a_len = (p.holds.long, p.holds_2.long) }

pub returns : goal.returns
returns c =
    let a = c.args in
    let p = c.requires in
    let lo = column_place a.rows c.lower.ensures in
    let hi = column_place a.rows c.upper.ensures in
    let lo2 = column_place a.rows c.lower-2.ensures in
    let hi2 = column_place a.rows c.upper-2.ensures in (
      line-holds _ _ p.holds.long p.map.rows-most c.add_both.ensures.0 (λ r less. across_two _ _ _ _ _ _ a.t _ _ _ _ r (p.holds.float r less) lo hi lo2 hi2),
      line-holds _ _ p.holds_2.long p.map.rows-most c.add_both.ensures.1 (λ r less. across_two _ _ _ _ _ _ a.t _ _ _ _ r (p.holds_2.float r less) lo hi lo2 hi2),
    )
