-- `place::delta_y` meets its contract.
use Rattle.spatial.specs.Place.{delta_yOf}
use Rattle.spatial.proofs.place.delta_y.Goals as goal

pub returns : goal.returns
unfolding delta_yOf
returns c = cc
