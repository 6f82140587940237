-- `profile_sum4` meets its contract.
use Rattle.profile.specs.Four.{sum_of}
use mathlib.Core.Path.{refl}
use Rattle.profile.proofs.four.profile_sum4.Goals as goal

pub returns : goal.returns
unfolding sum_of
returns c = refl
