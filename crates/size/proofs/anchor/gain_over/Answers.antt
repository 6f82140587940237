-- `gain_over` meets its contract.
use Rattle.size.specs.Correct.{gain_of}
use Rattle.size.proofs.anchor.gain_over.Goals as goal

pub returns : goal.returns
unfolding gain_of
returns c = rw (← c.derivative.ensures, ← c.curvature.ensures)
