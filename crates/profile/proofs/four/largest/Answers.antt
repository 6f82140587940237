-- `largest` meets its contract.
use Rattle.profile.specs.Four.{largest_by}
use Rattle.profile.proofs.four.largest.Goals as goal

pub returns : goal.returns
unfolding largest_by
returns c = rw (← c.max.ensures, ← c.max-2.ensures, ← c.max-3.ensures)
