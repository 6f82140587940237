-- `profile_compatibility_statistic` meets its contract.
use Rattle.profile.specs.Profile.{statistic_by}
use Rattle.profile.proofs.profile_compatibility_statistic.Goals as goal

pub returns-then-usable_samples : goal.returns-then-usable_samples
unfolding statistic_by
returns-then-usable_samples c = rw (← c.usable_samples.ensures, c.if-usable_samples.true, ← c.squares-x.ensures, ← c.quotients.ensures) c.scaled.ensures

pub returns-else-usable_samples : goal.returns-else-usable_samples
unfolding statistic_by
returns-else-usable_samples c = rw (← c.usable_samples.ensures, c.if-usable_samples.false)
