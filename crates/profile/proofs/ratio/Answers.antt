-- `ratio` meets its contract.
use Rattle.profile.specs.Profile.{ratio_of}
use Rattle.profile.proofs.ratio.Goals as goal

pub returns-then-usable_energy : goal.returns-then-usable_energy
unfolding ratio_of
returns-then-usable_energy c = rw (← c.usable_energy.ensures, c.if-usable_energy.true)

pub returns-else-usable_energy : goal.returns-else-usable_energy
unfolding ratio_of
returns-else-usable_energy c = rw (← c.usable_energy.ensures, c.if-usable_energy.false)
