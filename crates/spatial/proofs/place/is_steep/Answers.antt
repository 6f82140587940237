-- `place::is_steep` meets its contract.
use Rattle.spatial.specs.Place.{steep_of}
use Rattle.spatial.proofs.place.is_steep.Goals as goal

pub returns : goal.returns
unfolding steep_of
returns c = cc
