-- `is_nearby` meets its contract.
use Rattle.moves.specs.Moves.{nearby}
use Rattle.moves.proofs.is_nearby.Goals as goal

pub returns : goal.returns
unfolding nearby
returns c = rw (c.abs.ensures, c.is_finite.ensures)
