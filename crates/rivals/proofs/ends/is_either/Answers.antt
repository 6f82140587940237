-- `ends::is_either` meets its contract.
use Rattle.rivals.proofs.ends.is_either.Goals as goal

pub returns : goal.returns
returns c = cc
