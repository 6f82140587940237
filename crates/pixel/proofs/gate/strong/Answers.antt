-- `gate::strong` meets its contract.
use Rattle.pixel.specs.Gate.{strong_of}
use Rattle.pixel.proofs.gate.strong.Goals as goal

pub returns-then-is_max : goal.returns-then-is_max
unfolding strong_of
returns-then-is_max c = rw c.if-is_max.true

pub returns-else-is_max : goal.returns-else-is_max
unfolding strong_of
returns-else-is_max c = rw c.if-is_max.false
