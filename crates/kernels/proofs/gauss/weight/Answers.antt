-- `gauss::weight` meets its contract.
use Rattle.kernels.specs.Kernel.{weight_of}
use Rattle.kernels.proofs.gauss.weight.Goals as goal

pub returns : goal.returns
unfolding weight_of
returns c = cc
