use Rattle.fit.specs.Owns.{owns_by}
use Rattle.fit.proofs.scale_fit.owns_scale_extremum.Goals as goal

pub returns-then-is_max : goal.returns-then-is_max
unfolding owns_by
returns-then-is_max c = rw (c.max-then-is_max.ensures, c.max.ensures, c.if-is_max.true)

pub returns-else-is_max : goal.returns-else-is_max
unfolding owns_by
returns-else-is_max c = rw (c.min-else-is_max.ensures, c.min.ensures, c.if-is_max.false)
