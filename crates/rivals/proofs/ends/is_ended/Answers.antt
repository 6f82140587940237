-- `ends::is_ended` meets its contract.
use Rattle.rivals.specs.Ends.{ended_of}
use Rattle.rivals.proofs.ends.is_ended.Goals as goal

pub returns : goal.returns
unfolding ended_of
returns c = rw (c.is_three-2.ensures, c.is_either.ensures, c.is_three.ensures)
