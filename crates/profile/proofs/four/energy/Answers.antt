-- `energy` meets its contract.
use Rattle.profile.specs.Four.{energy_of}
use Rattle.profile.proofs.four.energy.Goals as goal

pub returns : goal.returns
unfolding energy_of
returns c = rw (← c.squares.ensures, ← c.profile_sum4.ensures)
