-- `store` meets its contract.
use Rattle.ring.proofs.store.Goals as goal

pub returns-then-taken : goal.returns-then-taken
returns-then-taken c = rw c.if-taken.true c.copy.ensures

pub returns-else-taken : goal.returns-else-taken
returns-else-taken c = rw c.if-taken.false
