-- `gauss::ceil` meets its contract. The loop's invariant: every number under n is below x.
use mathlib.Core.Path.{◌≡◌, sym, ◌∙◌}
use mathlib.Core.Bool.{true, false}
use mathlib.Core.Logic.{inl, inr}
use native.Mathlib.Nat.{not-suc-le-zero}
use native.Mathlib.Omega.{arith}
use lib.Ieee.{lt}
use borrow.Author.Count.{below_more}
use Rattle.kernels.proofs.Ceil.{ceil_is}
use Rattle.kernels.proofs.gauss.ceil.Goals as goal

pub loop-n-init : goal.loop-n-init
loop-n-init c = (omega arith, λ k h. absurd (not-suc-le-zero h))

pub returns-then-not-y-x : goal.returns-then-not-y-x
returns-then-not-y-x c =
    let l = c.loop-n in
    let h : lt c.count-y.result c.args.x ≡ false = c.if-not-y-x.true in
    ceil_is _ l.n l.invariant.0 l.invariant.1 (inr (rw c.count-y.ensures at h))

pub loop-n-preserved : goal.loop-n-preserved
loop-n-preserved c =
    let l = c.loop-n in
    let h : lt c.count-y.result c.args.x ≡ true = c.if-not-y-x.false in
    (omega arith, below_more _ _ l.invariant.1 (rw c.count-y.ensures at h))

pub returns : goal.returns
returns c =
    let l = c.loop-n in
    let end : l.n ≡ 16 = omega arith in
    sym end ∙ ceil_is _ l.n l.invariant.0 l.invariant.1 (inl (omega arith))
