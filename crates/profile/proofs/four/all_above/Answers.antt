-- `all_above` meets its contract.
use Rattle.profile.specs.Four.{all_above}
use mathlib.Core.Path.{refl}
use Rattle.profile.proofs.four.all_above.Goals as goal

pub returns : goal.returns
unfolding all_above
returns c = refl
