-- `stencil` meets its contract.
use mathlib.Core.Path.{refl}
use Rattle.nine.specs.Nine.{stencil_by}
use Rattle.nine.proofs.stencil.Goals as goal

pub returns : goal.returns
unfolding stencil_by
returns c = refl
