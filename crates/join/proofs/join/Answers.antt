-- `join` meets its contract.
use Rattle.join.proofs.join.Goals as goal

pub returns : goal.returns
returns c = c.join_by.ensures
