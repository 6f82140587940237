-- `height` meets its contract.
use mathlib.Core.Path.{◌≡◌}
use Prim.Native.Nat.{◌-◌}
use native.Mathlib.Omega.{arith}
use borrow.Author.Tests.{not-true, not-false}
use Rattle.ring.specs.Lent.{height_of}
use Rattle.spots.proofs.height.Goals as goal

pub returns-then-not-is_judging : goal.returns-then-not-is_judging
unfolding height_of
returns-then-not-is_judging c = rw (← c.is_judging.ensures, not-true c.is_judging.result c.if-not-is_judging.true-raw)

pub returns-then-s-lt8 : goal.returns-then-s-lt8
unfolding height_of
returns-then-s-lt8 c = let few : 0 ≡ c.args.s.rows - 8 = omega arith in rw (← c.is_judging.ensures, not-false c.is_judging.result c.if-not-is_judging.false-raw) few

pub returns : goal.returns
unfolding height_of
returns c = rw (← c.is_judging.ensures, not-false c.is_judging.result c.if-not-is_judging.false-raw)
