-- `along::along` meets its contract. The loop's invariant: the pass by the taps up to t is stored.
use native.Mathlib.Omega.{arith}
use mathlib.Core.Path.{◌≡◌, ◌∙◌}
use Rattle.grid.proofs.StoredLaws.{stored-length, stored-float, stored_self}
use Rattle.blur.proofs.PassLaws.{stored_over, along_first}
use Rattle.blur.proofs.along.along.Goals as goal

pub weigh-requires : goal.weigh-requires
weigh-requires c = let p = c.requires in record { n_in_bounds = omega (arith, p.padded.long, p.padded.most); n_in_bounds_2 = p.rows_in_bounds }

pub loop-t-init : goal.loop-t-init
loop-t-init c =
    let p = c.requires in
    let w = c.weigh.ensures in
    (omega arith, stored_self _ _ (omega (arith, p.rows_in_bounds, stored-length w)) (λ r less. stored-float _ w p.rows_in_bounds r less ∙ along_first _ _ _ p.padded r))

pub step-t-requires : goal.step-t-requires
step-t-requires c =
    let p = c.requires in
    let l = c.loop-t in
    let w = c.weigh.ensures in
    record {
      padded = p.padded;
      radius_bound = p.radius_bound;
      t_lt_radius = c.loop-t-test.true;
      rows_in_bounds = omega (arith, p.rows_in_bounds, stored-length l.invariant.1, stored-length w);
      held = stored-float _ l.invariant.1 (omega (arith, p.rows_in_bounds, stored-length w));
    }

pub loop-t-smaller : goal.loop-t-smaller
loop-t-smaller c = omega (arith, c.step-t.ensures.more, c.step-t.ensures.most)

pub loop-t-preserved : goal.loop-t-preserved
loop-t-preserved c =
    let s = c.step-t.ensures in
    (s.most, stored_over _ _ _ c.loop-t.invariant.1 s.stored (omega (arith, c.requires.rows_in_bounds, stored-length c.weigh.ensures)))

pub shape_of-out : goal.shape_of-out
shape_of-out c = stored-length c.loop-t.invariant.1 ∙ stored-length c.weigh.ensures

pub returns : goal.returns
returns c =
    let l = c.loop-t in
    let end : l.t ≡ c.args.k.radius = omega arith in
    stored_over _ _ _ c.weigh.ensures (rw end at l.invariant.1) c.requires.rows_in_bounds
