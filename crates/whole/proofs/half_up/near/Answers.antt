-- `whole::half_up::near` meets its contract. Assumes nothing.
use native.Mathlib.Omega.{arith}
use lib.Bits.{and_mask}
use Rattle.whole.proofs.half_up.near.Goals as goal

-- less than half is cut off
pub returns-then-part-lt8388608 : goal.returns-then-part-lt8388608
returns-then-part-lt8388608 c = let less = c.if-part-lt8388608.true in omega (arith, and_mask c.args.v 24)

-- half or more is made whole
pub returns-else-part-lt8388608 : goal.returns-else-part-lt8388608
returns-else-part-lt8388608 c = let more = c.if-part-lt8388608.false in omega (arith, and_mask c.args.v 24)
