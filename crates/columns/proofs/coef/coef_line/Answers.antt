-- `coef::coef_line` meets its contract. The loop's invariant: the first i places are written.
use mathlib.Core.Path.{◌≡◌}
use native.Mathlib.Omega.{arith}
use Rattle.columns.proofs.CoefLaws.{coefs_none, coefs_more}
use Rattle.columns.proofs.coef.coef_line.Goals as goal

pub loop-i-init : goal.loop-i-init
loop-i-init c = coefs_none _ _ _ _ _ _ _ _ _ _ _

pub coef_at-requires : goal.coef_at-requires
coef_at-requires c = (omega arith, omega arith)

pub loop-i-preserved : goal.loop-i-preserved
loop-i-preserved c =
    let a = c.args in
    let l = c.loop-i in
    let long = c.requires.sizes in
    coefs_more a.t.now a.s0.now a.s1.now a.s2.now a.s3.now a.z a.a.now a.b.now a.c.now a.d.now a.q.now l.i _ _ _ _ _ _ _ _ _ _ l.invariant (omega (arith, long.first)) (omega (arith, long.second)) (omega (arith, long.third)) (omega (arith, long.fourth)) (omega (arith, long.root)) c.coef_at.ensures

pub returns : goal.returns
returns c =
    let l = c.loop-i in
    let e : c.args.n ≡ l.i = omega (arith, c.loop-i-test.false) in
    rw e l.invariant
