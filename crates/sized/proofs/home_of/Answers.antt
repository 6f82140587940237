-- `home_of` meets its contract.
use Rattle.sized.specs.Sized.{home_of}
use Rattle.sized.proofs.home_of.Goals as goal

pub returns : goal.returns
unfolding home_of
returns c = cc
