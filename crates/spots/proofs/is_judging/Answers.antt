-- `is_judging` meets its contract.
use mathlib.Core.Path.{refl}
use Rattle.ring.specs.Ring.{judges}
use Rattle.spots.proofs.is_judging.Goals as goal

pub returns : goal.returns
unfolding judges
returns c = refl
