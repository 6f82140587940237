-- `ends::is_ending` meets its contract.
use Rattle.rivals.specs.Ends.{ends}
use Rattle.rivals.proofs.ends.is_ending.Goals as goal

pub returns : goal.returns
unfolding ends
returns c = cc
