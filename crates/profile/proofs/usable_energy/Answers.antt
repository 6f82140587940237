-- `usable_energy` meets its contract.
use Rattle.profile.specs.Profile.{usable_energy}
use Rattle.profile.proofs.usable_energy.Goals as goal

pub returns : goal.returns
unfolding usable_energy
returns c = rw (← c.is_finite.ensures, ← c.is_finite-2.ensures, ← c.is_finite-3.ensures)
