-- `geometry_of` meets its contract.
use mathlib.Core.Path.{refl}
use Rattle.size.specs.Correct.{geometry_of}
use Rattle.size.proofs.anchor.geometry_of.Goals as goal

pub returns : goal.returns
unfolding geometry_of
returns c = refl
