-- `four_of` meets its contract.
use Rattle.gather.proofs.StepLaws.{each-listed}
use native.Mathlib.Nat.{add-zero}
use mathlib.Core.Path.{refl}
use Rattle.gather.proofs.four_of.Goals as goal

pub returns : goal.returns
returns c = each-listed _ (rw add-zero refl) refl refl refl
