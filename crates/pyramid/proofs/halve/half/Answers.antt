-- `halve::half` meets its contract.
use Rattle.pyramid.specs.Pyramid.{half_of}
use Rattle.pyramid.proofs.halve.half.Goals as goal

pub returns-then-side-other : goal.returns-then-side-other
unfolding half_of
returns-then-side-other c = rw c.if-side-other.true

pub returns : goal.returns
unfolding half_of
returns c = rw c.if-side-other.false
