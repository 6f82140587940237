-- `is_better` meets its contract.
use Rattle.size.specs.Correct.{better}
use Rattle.size.proofs.anchor.is_better.Goals as goal

pub returns : goal.returns
unfolding better
returns c = rw (← c.sigma_at.ensures, ← c.is_accepted.ensures, ← c.derivative.ensures, ← c.derivative-2.ensures, ← c.is_flatter.ensures, ← c.curvature.ensures, ← c.is_right_polarity.ensures, ← c.gain_over.ensures, ← c.has_gained.ensures)
