-- `refine::placed` meets its contract.
use Rattle.refine.specs.Refine.{placed_of}
use Rattle.refine.proofs.refine.placed.Goals as goal

pub returns-then-is_nearby : goal.returns-then-is_nearby
unfolding placed_of
returns-then-is_nearby c = rw (← c.is_nearby.ensures, ← c.is_nearby-2.ensures, c.if-is_nearby.true)

pub returns-else-is_nearby : goal.returns-else-is_nearby
unfolding placed_of
returns-else-is_nearby c = rw (← c.is_nearby.ensures, ← c.is_nearby-2.ensures, c.if-is_nearby.false)
