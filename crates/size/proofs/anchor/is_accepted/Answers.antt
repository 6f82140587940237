-- `is_accepted` meets its contract.
use Rattle.size.specs.Correct.{accepted}
use Rattle.size.proofs.anchor.is_accepted.Goals as goal

pub returns : goal.returns
unfolding accepted
returns c = rw (← c.is_finite.ensures, ← c.is_finite-2.ensures)
