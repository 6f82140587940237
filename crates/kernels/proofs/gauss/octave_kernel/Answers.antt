-- `gauss::octave_kernel` meets its contract.
use mathlib.Core.Path.{◌∙◌}
use Rattle.kernels.specs.Kernel.{kernel_to}
use Rattle.kernels.proofs.gauss.octave_kernel.Goals as goal

pub returns : goal.returns
unfolding kernel_to
returns c = c.gaussian.ensures ∙ rw (c.left.ensures, c.base.ensures)
