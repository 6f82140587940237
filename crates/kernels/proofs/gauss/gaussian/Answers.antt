-- `gauss::gaussian` meets its contract.
use Rattle.kernels.specs.Kernel.{gaussian_of, single}
use Rattle.kernels.proofs.Ceil.{ceil_most}
use Rattle.kernels.proofs.gauss.gaussian.Goals as goal

pub returns-then-sigma : goal.returns-then-sigma
unfolding gaussian_of single
returns-then-sigma c = rw c.if-sigma.true

pub taps-a-requires : goal.taps-a-requires
taps-a-requires c = rw c.ceil-radius.ensures (ceil_most _)

pub returns : goal.returns
unfolding gaussian_of
returns c = rw (c.if-sigma.false, c.taps-a.ensures, c.ceil-radius.ensures)
