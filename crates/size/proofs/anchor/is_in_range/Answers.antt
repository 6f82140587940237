-- `is_in_range` meets its contract.
use Rattle.size.specs.Correct.{in_range}
use Rattle.size.proofs.anchor.is_in_range.Goals as goal

pub returns : goal.returns
unfolding in_range
returns c = rw (← c.is_finite.ensures, ← c.is_accepted.ensures)
