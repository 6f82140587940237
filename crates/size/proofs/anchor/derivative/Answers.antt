-- `derivative` meets its contract.
use Rattle.size.specs.Correct.{derivative_of}
use mathlib.Core.Path.{refl}
use Rattle.size.proofs.anchor.derivative.Goals as goal

pub returns : goal.returns
unfolding derivative_of
returns c = refl
