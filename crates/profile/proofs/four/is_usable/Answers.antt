-- `is_usable` meets its contract.
use Rattle.profile.specs.Four.{usable}
use Rattle.profile.proofs.four.is_usable.Goals as goal

pub returns : goal.returns
unfolding usable
returns c = rw (← c.is_finite.ensures)
