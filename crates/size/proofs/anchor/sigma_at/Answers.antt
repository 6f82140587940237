-- `sigma_at` meets its contract.
use Rattle.size.specs.Correct.{sigma_at}
use Rattle.size.proofs.anchor.sigma_at.Goals as goal

pub returns : goal.returns
unfolding sigma_at
returns c = rw (← c.exp.ensures)
