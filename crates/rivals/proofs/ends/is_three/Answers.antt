-- `ends::is_three` meets its contract.
use Rattle.rivals.proofs.ends.is_three.Goals as goal

pub returns : goal.returns
returns c = cc
