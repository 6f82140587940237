-- `dot` meets its contract.
use Rattle.profile.specs.Four.{dot_of}
use Rattle.profile.proofs.four.dot.Goals as goal

pub returns : goal.returns
unfolding dot_of
returns c = rw (← c.products.ensures, ← c.profile_sum4.ensures)
