-- `quotients` meets its contract.
use Rattle.profile.specs.Four.{quotients_of}
use Rattle.profile.proofs.four.quotients.Goals as goal

pub returns : goal.returns
unfolding quotients_of
returns c = rw (← c.abs.ensures, ← c.abs-2.ensures, ← c.abs-3.ensures, ← c.abs-4.ensures)
