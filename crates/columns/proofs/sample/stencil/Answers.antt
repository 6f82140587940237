-- `sample::stencil` meets its contract.
use mathlib.Core.Path.{refl}
use Rattle.columns.specs.Sample.{stencil_at}
use Rattle.columns.proofs.sample.stencil.Goals as goal

pub returns : goal.returns
unfolding stencil_at
returns c = refl
