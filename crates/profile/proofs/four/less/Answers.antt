-- `less` meets its contract.
use Rattle.profile.specs.Four.{less_of}
use mathlib.Core.Path.{refl}
use Rattle.profile.proofs.four.less.Goals as goal

pub returns : goal.returns
unfolding less_of
returns c = refl
