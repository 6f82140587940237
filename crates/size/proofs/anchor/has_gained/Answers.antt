-- `has_gained` meets its contract.
use Rattle.size.specs.Correct.{gained}
use Rattle.size.proofs.anchor.has_gained.Goals as goal

pub returns-then-is_max : goal.returns-then-is_max
unfolding gained
returns-then-is_max c = rw (← c.is_finite-finite.ensures, c.if-is_max.true)

pub returns-else-is_max : goal.returns-else-is_max
unfolding gained
returns-else-is_max c = rw (← c.is_finite-finite.ensures, c.if-is_max.false)
