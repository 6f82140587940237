-- `logexp::logarithm::scaled` meets its contract. Assumes nothing.
use Prim.Native.Nat.{ℕ, ◌/◌, ◌^◌, ◌<◌}
use native.Mathlib.Omega.{arith}
use borrow.Author.Tests.{lt-ltb, le-ltb}
use lib.Dec.{T, le→leb}
use lib.IntN.{pos}
use lib.Ieee.{binary32, in_float}
use Rattle.logexp.specs.Log.{scaled_of}
use Rattle.logexp.proofs.logarithm.scaled.Goals as goal

in_float_lem : (n : ℕ) → n < 2 ^ 24 → T (in_float binary32 (pos n))
unfolding in_float
in_float_lem n h = le→leb n (2 ^ 24) (omega arith)

pub int_to_float-result : goal.int_to_float-result
int_to_float-result c = in_float_lem c.args.n c.if-n-lt16777216.true

pub int_to_float-result-else-n-lt16777216 : goal.int_to_float-result-else-n-lt16777216
int_to_float-result-else-n-lt16777216 c = in_float_lem (c.args.n / 2 ^ 5) (omega arith)

pub returns-then-n-lt16777216 : goal.returns-then-n-lt16777216
unfolding scaled_of
returns-then-n-lt16777216 c = simp (lt-ltb _ _ c.if-n-lt16777216.true)

pub returns-else-n-lt16777216 : goal.returns-else-n-lt16777216
unfolding scaled_of
returns-else-n-lt16777216 c = simp (le-ltb _ _ c.if-n-lt16777216.false)
