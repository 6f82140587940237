-- `place::denominator` meets its contract.
use Rattle.spatial.specs.Place.{denominator_of}
use mathlib.Core.Path.{refl}
use Rattle.spatial.proofs.place.denominator.Goals as goal

pub returns : goal.returns
unfolding denominator_of
returns c = refl
