-- `fitted` meets its contract.
use Rattle.profile.specs.Profile.{fitted_of}
use Rattle.profile.proofs.fitted.Goals as goal

pub returns-then-usable_line : goal.returns-then-usable_line
unfolding fitted_of
returns-then-usable_line c = rw (← c.spread-dx.ensures, ← c.spread-dy.ensures, ← c.dot-numerator.ensures, ← c.energy.ensures, ← c.mean-mean_z.ensures, ← c.mean-mean_x.ensures, ← c.usable_line.ensures, c.if-usable_line.true) c.off_line.ensures

pub returns-else-usable_line : goal.returns-else-usable_line
unfolding fitted_of
returns-else-usable_line c = rw (← c.spread-dx.ensures, ← c.spread-dy.ensures, ← c.dot-numerator.ensures, ← c.energy.ensures, ← c.mean-mean_z.ensures, ← c.mean-mean_x.ensures, ← c.usable_line.ensures, c.if-usable_line.false)
