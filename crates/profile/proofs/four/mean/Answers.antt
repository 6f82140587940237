-- `mean` meets its contract.
use Rattle.profile.specs.Four.{mean_of}
use Rattle.profile.proofs.four.mean.Goals as goal

pub returns : goal.returns
unfolding mean_of
returns c = rw (← c.profile_sum4.ensures)
