-- `missing_of` meets its contract.
use Rattle.sized.specs.Sized.{missing_of}
use Rattle.sized.proofs.missing_of.Goals as goal

pub returns-in-Ok : goal.returns-in-Ok
unfolding missing_of
returns-in-Ok c = rw c.in-Ok.is

pub returns-in-Err : goal.returns-in-Err
unfolding missing_of
returns-in-Err c = rw (c.in-Err.is, ← c.from.ensures)
