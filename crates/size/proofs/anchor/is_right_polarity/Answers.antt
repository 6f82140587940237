-- `is_right_polarity` meets its contract.
use Rattle.size.specs.Correct.{right_polarity}
use Rattle.size.proofs.anchor.is_right_polarity.Goals as goal

pub returns-then-is_max : goal.returns-then-is_max
unfolding right_polarity
returns-then-is_max c = rw c.if-is_max.true

pub returns-else-is_max : goal.returns-else-is_max
unfolding right_polarity
returns-else-is_max c = rw c.if-is_max.false
