-- `float::bits::field` meets its contract. Assumes nothing.
use borrow.Author.Tests.{lt-ltb, le-ltb}
use Rattle.float.proofs.bits.field.Goals as goal

pub returns-then-b-lt8388608 : goal.returns-then-b-lt8388608
returns-then-b-lt8388608 c = simp (lt-ltb _ _ c.if-b-lt8388608.true)

pub returns-else-b-lt8388608 : goal.returns-else-b-lt8388608
returns-else-b-lt8388608 c = simp (le-ltb _ _ c.if-b-lt8388608.false)
