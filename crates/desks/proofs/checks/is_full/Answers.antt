-- `checks::is_full` meets its contract.
use Rattle.desks.proofs.checks.is_full.Goals as goal

pub returns : goal.returns
returns c = rw (← c.count_of.ensures)
