-- `usable_roots` meets its contract.
use Rattle.profile.specs.Profile.{usable_roots}
use Rattle.profile.proofs.usable_roots.Goals as goal

pub returns : goal.returns
unfolding usable_roots
returns c = rw (← c.all_usable.ensures, ← c.all_usable-2.ensures, ← c.is_finite.ensures, ← c.all_usable-3.ensures)
