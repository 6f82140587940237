-- `over` meets its contract.
use Rattle.profile.specs.Four.{over_of}
use mathlib.Core.Path.{refl}
use Rattle.profile.proofs.four.over.Goals as goal

pub returns : goal.returns
unfolding over_of
returns c = refl
