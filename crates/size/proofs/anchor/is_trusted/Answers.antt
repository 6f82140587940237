-- `is_trusted` meets its contract.
use Rattle.size.specs.Correct.{trusted}
use Rattle.size.proofs.anchor.is_trusted.Goals as goal

pub returns : goal.returns
unfolding trusted
returns c = rw (← c.is_finite.ensures, ← c.is_finite-2.ensures, ← c.is_finite-3.ensures, ← c.is_right_polarity.ensures)
