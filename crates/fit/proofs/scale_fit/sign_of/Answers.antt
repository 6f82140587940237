use Rattle.fit.specs.Band.{sign_of}
use Rattle.fit.proofs.scale_fit.sign_of.Goals as goal

pub returns-then-is_max : goal.returns-then-is_max
unfolding sign_of
returns-then-is_max c = rw c.if-is_max.true

pub returns-else-is_max : goal.returns-else-is_max
unfolding sign_of
returns-else-is_max c = rw c.if-is_max.false
