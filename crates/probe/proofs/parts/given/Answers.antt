-- `parts::given` meets its contract.
use Rattle.probe.specs.Probe.{given_of}
use Rattle.probe.proofs.parts.given.Goals as goal

pub returns-then-present : goal.returns-then-present
unfolding given_of
returns-then-present c = rw c.if-present.true

pub returns-else-present : goal.returns-else-present
unfolding given_of
returns-else-present c = rw c.if-present.false
