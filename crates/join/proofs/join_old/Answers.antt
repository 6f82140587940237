-- `join_old` meets its contract.
use Rattle.join.proofs.join_old.Goals as goal

pub returns : goal.returns
returns c = c.join_by.ensures
