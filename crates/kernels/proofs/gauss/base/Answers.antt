-- `gauss::base` meets its contract.
use borrow.Author.Tests.{eq-eqb, ne_eqb}
use Rattle.kernels.specs.Kernel.{base_of}
use Rattle.kernels.proofs.gauss.base.Goals as goal

pub returns-then-octave-eq0 : goal.returns-then-octave-eq0
unfolding base_of
returns-then-octave-eq0 c = rw (eq-eqb _ _ c.if-octave-eq0.true)

pub returns : goal.returns
unfolding base_of
returns c = rw (ne_eqb _ _ c.if-octave-eq0.false)
