-- `gauss::left` meets its contract.
use Rattle.kernels.specs.Kernel.{left_of}
use Rattle.kernels.proofs.gauss.left.Goals as goal

pub returns : goal.returns
unfolding left_of
returns c = cc
