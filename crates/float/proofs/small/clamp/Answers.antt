-- `float::small::clamp` meets its contract. Assumes nothing.
use Rattle.float.specs.Small.{clamp_of}
use Rattle.float.proofs.small.clamp.Goals as goal

pub returns-then-x-low : goal.returns-then-x-low
unfolding clamp_of
returns-then-x-low c = rw c.if-x-low.true

pub returns-then-x-high : goal.returns-then-x-high
unfolding clamp_of
returns-then-x-high c = rw (c.if-x-low.false, c.if-x-high.true)

pub returns-else-x-high : goal.returns-else-x-high
unfolding clamp_of
returns-else-x-high c = rw (c.if-x-low.false, c.if-x-high.false)
