-- `record::is_within` meets its contract. Assumes nothing.
use mathlib.Core.Path.{refl, sym, subst}
use Prim.Native.Nat.{◌^◌}
use native.Mathlib.Omega.{arith}
use lib.Dec.{T}
use lib.Ieee.{in_float}
use borrow.Author.Tests.{le-leb}
use Rattle.record.specs.Readable.{within}
use Rattle.record.proofs.is_within.Goals as goal

pub int_to_float-result : goal.int_to_float-result
unfolding in_float
int_to_float-result c = subst T (sym (le-leb c.args.last (2 ^ 24) (omega arith))) tt

pub returns : goal.returns
unfolding within
returns c = refl
