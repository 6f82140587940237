-- `across::rest` meets its contract. The loop's invariant: the line holds the pass by the taps up to s.
use native.Mathlib.Omega.{arith}
use mathlib.Core.Path.{◌≡◌}
use Rattle.blur.specs.Blur.{across_at}
use Rattle.blur.proofs.across.rest.Goals as goal

pub loop-s-init : goal.loop-s-init
loop-s-init c = (omega arith, c.requires.holds)

pub step-s-requires : goal.step-s-requires
step-s-requires c =
    let p = c.requires in
    record { map = p.map; radius_bound = p.radius_bound; t_lt_radius = c.loop-s-test.true; holds = c.loop-s.invariant.1 }

pub loop-s-smaller : goal.loop-s-smaller
loop-s-smaller c = omega (arith, c.step-s.ensures.more, c.step-s.ensures.most)

pub loop-s-preserved : goal.loop-s-preserved
loop-s-preserved c = (c.step-s.ensures.most, c.step-s.ensures.holds)

pub returns : goal.returns
unfolding across_at
returns c =
    let l = c.loop-s in
    let end : l.s ≡ c.args.k.radius = omega arith in
    rw end at l.invariant.1
