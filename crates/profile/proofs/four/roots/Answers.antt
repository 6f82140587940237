-- `roots` meets its contract.
use Rattle.profile.specs.Four.{roots_of}
use Rattle.profile.proofs.four.roots.Goals as goal

pub returns : goal.returns
unfolding roots_of
returns c = rw (← c.sqrt.ensures, ← c.sqrt-2.ensures, ← c.sqrt-3.ensures, ← c.sqrt-4.ensures)
