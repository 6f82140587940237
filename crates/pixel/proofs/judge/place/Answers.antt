-- `judge::place` meets its contract.
use mathlib.Core.Path.{sym, subst}
use Prim.Native.Nat.{◌^◌}
use native.Mathlib.Omega.{arith}
use lib.Dec.{T}
use lib.Ieee.{in_float}
use borrow.Author.Tests.{le-leb}
use Rattle.pixel.proofs.judge.place.Goals as goal

pub int_to_float-result : goal.int_to_float-result
unfolding in_float
int_to_float-result c = subst T (sym (le-leb c.args.n (2 ^ 24) (omega arith))) tt
