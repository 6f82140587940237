-- `accept::is_accepted` meets its contract.
use Rattle.sides.specs.Beside.{taken_of}
use Rattle.sides.proofs.accept.is_accepted.Goals as goal

pub returns : goal.returns
unfolding taken_of
returns c = cc
