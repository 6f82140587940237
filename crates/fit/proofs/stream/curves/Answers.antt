use Rattle.fit.proofs.stream.curves.Goals as goal

pub returns-then-is_min : goal.returns-then-is_min
returns-then-is_min c = rw c.if-is_min.true

pub returns-else-is_min : goal.returns-else-is_min
returns-else-is_min c = rw c.if-is_min.false
