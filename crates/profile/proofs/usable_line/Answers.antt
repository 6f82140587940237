-- `usable_line` meets its contract.
use Rattle.profile.specs.Profile.{usable_line}
use Rattle.profile.proofs.usable_line.Goals as goal

pub returns : goal.returns
unfolding usable_line
returns c = rw (← c.is_finite.ensures, ← c.is_finite-2.ensures, ← c.is_finite-3.ensures, ← c.is_finite-4.ensures)
