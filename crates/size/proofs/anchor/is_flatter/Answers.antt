-- `is_flatter` meets its contract.
use Rattle.size.specs.Correct.{flatter}
use Rattle.size.proofs.anchor.is_flatter.Goals as goal

pub returns : goal.returns
unfolding flatter
returns c = rw (← c.is_finite.ensures, ← c.is_finite-2.ensures, ← c.abs.ensures, ← c.abs-2.ensures)
