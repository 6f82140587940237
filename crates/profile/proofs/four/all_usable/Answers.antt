-- `all_usable` meets its contract.
use Rattle.profile.specs.Four.{all_usable}
use Rattle.profile.proofs.four.all_usable.Goals as goal

pub returns : goal.returns
unfolding all_usable
returns c = rw (← c.is_usable.ensures, ← c.is_usable-2.ensures, ← c.is_usable-3.ensures, ← c.is_usable-4.ensures)
