-- `kept` meets its contract.
use Rattle.moves.specs.Moves.{kept_of}
use Rattle.moves.proofs.kept.Goals as goal

pub returns-then-d : goal.returns-then-d
unfolding kept_of
returns-then-d c = rw c.if-d.true

pub returns-else-d : goal.returns-else-d
unfolding kept_of
returns-else-d c = rw c.if-d.false
