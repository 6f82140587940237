-- `refine::moved` meets its contract.
use Rattle.refine.specs.Refine.{moved_of}
use borrow.Author.Tests.{not-true, not-false}
use Rattle.refine.proofs.refine.moved.Goals as goal

pub returns-then-denominator : goal.returns-then-denominator
unfolding moved_of
returns-then-denominator c = rw (← c.denominator.ensures, c.if-denominator.true)

pub returns-then-abs : goal.returns-then-abs
unfolding moved_of
returns-then-abs c = rw (← c.denominator.ensures, c.if-denominator.false, ← c.abs.ensures, c.if-abs.true)

pub returns-then-not-is_steep : goal.returns-then-not-is_steep
unfolding moved_of
returns-then-not-is_steep c = rw (← c.denominator.ensures, c.if-denominator.false, ← c.abs.ensures, c.if-abs.false, ← c.is_steep.ensures, not-true c.is_steep.result c.if-not-is_steep.true-raw)

pub returns : goal.returns
unfolding moved_of
returns c = rw (← c.denominator.ensures, c.if-denominator.false, ← c.abs.ensures, c.if-abs.false, ← c.is_steep.ensures, not-false c.is_steep.result c.if-not-is_steep.false-raw, ← c.delta_y-dy.ensures, ← c.delta_x-dx.ensures) c.placed.ensures
