use Rattle.fit.proofs.scale_fit.opens.Goals as goal

pub returns-then-is_max : goal.returns-then-is_max
returns-then-is_max c = rw c.if-is_max.true

pub returns-else-is_max : goal.returns-else-is_max
returns-else-is_max c = rw c.if-is_max.false
