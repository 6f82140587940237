-- `level_nine` meets its contract.
use Rattle.nine.specs.Nine.{level_nine}
use Rattle.nine.proofs.level_nine.Goals as goal

pub returns : goal.returns
unfolding level_nine
returns c = cc
