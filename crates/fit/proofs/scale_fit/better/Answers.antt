-- `scale_fit::better` meets its contract.
use Rattle.fit.specs.Band.{better_by}
use Rattle.fit.proofs.scale_fit.better.Goals as goal

pub returns-in-Some : goal.returns-in-Some
unfolding better_by
returns-in-Some c = rw (c.in-Some.is, c.pick.ensures, c.max-value.ensures, c.horner.ensures)

pub returns-in-None : goal.returns-in-None
unfolding better_by
returns-in-None c = rw c.in-None.is
