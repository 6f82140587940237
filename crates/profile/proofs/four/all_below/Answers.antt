-- `all_below` meets its contract.
use Rattle.profile.specs.Four.{all_below}
use mathlib.Core.Path.{refl}
use Rattle.profile.proofs.four.all_below.Goals as goal

pub returns : goal.returns
unfolding all_below
returns c = refl
