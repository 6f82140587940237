-- `blurs::part` meets its contract.
use native.Mathlib.Omega.{arith}
use Prim.Native.Nat.{◌^◌}
use mathlib.Core.Path.{sym, subst}
use lib.Dec.{T}
use lib.Ieee.{in_float}
use borrow.Author.Tests.{le-leb, eq-eqb, ne_eqb}
use Rattle.probe.specs.Blurs.{kernel_part}
use borrow.Author.Rules.{rules}
use Rattle.probe.proofs.blurs.part.Goals as goal

pub int_to_float-result : goal.int_to_float-result
unfolding in_float
int_to_float-result c = subst T (sym (le-leb c.args.k.radius (2 ^ 24) (omega arith))) tt

pub returns-then-i-eq0 : goal.returns-then-i-eq0
unfolding kernel_part
returns-then-i-eq0 c = rw (eq-eqb _ _ c.if-i-eq0.true)

pub returns : goal.returns
unfolding kernel_part
returns c = rw (ne_eqb _ _ c.if-i-eq0.false) c.number_at.ensures
