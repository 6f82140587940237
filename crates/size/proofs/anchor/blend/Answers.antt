-- `blend` meets its contract.
use Rattle.size.specs.Correct.{blend_of}
use Rattle.size.proofs.anchor.blend.Goals as goal

pub returns-then-no_blend : goal.returns-then-no_blend
unfolding blend_of
returns-then-no_blend c = rw (← c.no_blend.ensures, c.if-no_blend.true)

pub returns-then-statistic-g : goal.returns-then-statistic-g
unfolding blend_of
returns-then-statistic-g c = rw (← c.no_blend.ensures, c.if-no_blend.false, c.if-statistic-g.true)

pub returns-then-statistic-g-2 : goal.returns-then-statistic-g-2
unfolding blend_of
returns-then-statistic-g-2 c = rw (← c.no_blend.ensures, c.if-no_blend.false, c.if-statistic-g.false, c.if-statistic-g-2.true)

pub returns : goal.returns
unfolding blend_of
returns c = rw (← c.no_blend.ensures, c.if-no_blend.false, c.if-statistic-g.false, c.if-statistic-g-2.false)
