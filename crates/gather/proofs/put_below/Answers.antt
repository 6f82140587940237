-- `put_below` meets its contract.
use mathlib.Core.Path.{refl}
use Rattle.gather.specs.Step.{done, passed}
use Rattle.gather.proofs.put_below.Goals as goal

pub returns-then-h-n : goal.returns-then-h-n
returns-then-h-n c = done c.if-h-n.true c.put_cubics.ensures

pub returns-else-h-n : goal.returns-else-h-n
returns-else-h-n c = passed c.if-h-n.false refl refl refl refl
