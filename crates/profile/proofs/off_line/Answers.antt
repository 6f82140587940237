-- `off_line` meets its contract.
use Rattle.profile.proofs.off_line.Goals as goal

pub returns : goal.returns
returns c = rw (← c.residual.ensures, ← c.energy.ensures, ← c.energy-2.ensures, ← c.ratio.ensures)
