-- `residual` meets its contract.
use Rattle.profile.specs.Profile.{residual_of}
use mathlib.Core.Path.{refl}
use Rattle.profile.proofs.residual.Goals as goal

pub returns : goal.returns
unfolding residual_of
returns c = refl
