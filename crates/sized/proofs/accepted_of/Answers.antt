-- `accepted_of` meets its contract.
use Rattle.sized.specs.Sized.{accepted_of}
use Rattle.sized.proofs.accepted_of.Goals as goal

pub returns-in-Ok : goal.returns-in-Ok
unfolding accepted_of
returns-in-Ok c = rw c.in-Ok.is

pub returns-in-Err : goal.returns-in-Err
unfolding accepted_of
returns-in-Err c = rw c.in-Err.is
