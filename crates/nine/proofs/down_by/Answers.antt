-- `down_by` meets its contract.
use Rattle.nine.specs.Nine.{down_by}
use Rattle.nine.proofs.down_by.Goals as goal

pub returns : goal.returns
unfolding down_by
returns c = cc
