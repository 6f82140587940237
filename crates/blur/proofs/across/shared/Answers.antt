-- `across::shared` meets its contract. The loop's invariant: both lines hold their passes by the taps up to t.
use borrow.Author.Rules.{rules}
use native.Mathlib.Omega.{arith}
use Rattle.blur.proofs.PassLaws.{line-holds, column_inside, map-most, across-first}
use Rattle.blur.proofs.across.shared.Goals as goal

pub overflow_mul-col : goal.overflow_mul-col
overflow_mul-col c = let m = c.requires.map in omega (arith, map-most m, column_inside m _ m.inside)

pub weigh-requires : goal.weigh-requires
weigh-requires c = let p = c.requires in record { n_in_bounds = column_inside p.map _ p.map.inside; n_in_bounds_2 = omega (arith, p.map.rows-most, p.a_len.0) }

pub overflow_mul-col-2 : goal.overflow_mul-col-2
overflow_mul-col-2 c = let m = c.requires.map in omega (arith, map-most m, column_inside m _ m.inside)

pub weigh-requires-2 : goal.weigh-requires-2
weigh-requires-2 c = let p = c.requires in record { n_in_bounds = column_inside p.map _ p.map.inside; n_in_bounds_2 = omega (arith, p.map.rows-most, p.a_len.1) }

pub loop-t-init : goal.loop-t-init
loop-t-init c =
    let p = c.requires in (
      omega arith,
      search rules,
      line-holds _ _ p.a_len.0 p.map.rows-most c.weigh.ensures (λ r less. across-first _ _ _ _ _ r),
      line-holds _ _ p.a_len.1 p.map.rows-most c.weigh-2.ensures (λ r less. across-first _ _ _ _ _ r),
    )

pub step_both-requires : goal.step_both-requires
step_both-requires c =
    let p = c.requires in
    let l = c.loop-t in
    record { map = p.map; t_bound = omega (arith, p.radii.first, l.invariant.1); holds = l.invariant.2; holds_2 = l.invariant.3 }

pub loop-t-preserved : goal.loop-t-preserved
loop-t-preserved c = (omega arith, c.loop-t.invariant.1, c.step_both.ensures.0, c.step_both.ensures.1)

pub returns : goal.returns
returns c = let l = c.loop-t in record { most = omega (arith, l.invariant.1); most' = omega (arith, l.invariant.1); holds = l.invariant.2; holds' = l.invariant.3 }
