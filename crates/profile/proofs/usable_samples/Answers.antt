-- `usable_samples` meets its contract.
use Rattle.fit.specs.Band.{finite_cubic}
use Rattle.profile.specs.Four.{all_finite}
use Rattle.profile.specs.Profile.{usable_samples}
use Rattle.profile.proofs.usable_samples.Goals as goal

pub returns : goal.returns
unfolding usable_samples all_finite finite_cubic
returns c = rw (← c.all_finite.ensures, ← c.all_above.ensures, ← c.all_below.ensures)
