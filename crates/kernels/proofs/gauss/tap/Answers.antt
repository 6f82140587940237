-- `gauss::tap` meets its contract.
use borrow.Author.Tests.{le-leb, lt-leb}
use Rattle.kernels.specs.Kernel.{tap_of}
use Rattle.kernels.proofs.gauss.tap.Goals as goal

pub returns-then-t-radius : goal.returns-then-t-radius
unfolding tap_of
returns-then-t-radius c = rw (le-leb _ _ c.if-t-radius.true, c.weight.ensures, c.requires.2)

pub returns : goal.returns
unfolding tap_of
returns c = rw (lt-leb _ _ c.if-t-radius.false)
