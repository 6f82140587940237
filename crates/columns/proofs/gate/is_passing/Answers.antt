-- `gate::is_passing` meets its contract.
use mathlib.Core.Path.{refl}
use Rattle.columns.specs.Gate.{pass_of}
use Rattle.columns.proofs.gate.is_passing.Goals as goal

pub returns : goal.returns
unfolding pass_of
returns c = refl
