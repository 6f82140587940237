-- `near::is_either` meets its contract.
use Rattle.rivals.proofs.near.is_either.Goals as goal

pub returns : goal.returns
returns c = rw (c.is_reaching-2.ensures, c.is_reaching.ensures)
