-- `float::bits::lead` meets its contract. Assumes nothing.
use native.Mathlib.Omega.{arith}
use lib.Bits.{and_mask, mask_lt}
use borrow.Author.Tests.{lt-ltb, le-ltb}
use Rattle.float.proofs.bits.lead.Goals as goal

pub overflow_add-result : goal.overflow_add-result
overflow_add-result c = omega (arith, mask_lt c.args.b 23)

pub returns-then-b-lt8388608 : goal.returns-then-b-lt8388608
returns-then-b-lt8388608 c = simp (lt-ltb _ _ c.if-b-lt8388608.true)

pub returns-else-b-lt8388608 : goal.returns-else-b-lt8388608
returns-else-b-lt8388608 c = simp (le-ltb _ _ c.if-b-lt8388608.false, and_mask c.args.b 23)
