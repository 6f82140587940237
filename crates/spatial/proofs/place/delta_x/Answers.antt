-- `place::delta_x` meets its contract.
use Rattle.spatial.specs.Place.{delta_xOf}
use mathlib.Core.Path.{refl}
use Rattle.spatial.proofs.place.delta_x.Goals as goal

pub returns : goal.returns
unfolding delta_xOf
returns c = refl
