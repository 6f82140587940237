-- `stat::stat_line` meets its contract. The loop's invariant: the first i points are written.
use mathlib.Core.Path.{◌≡◌}
use native.Mathlib.Omega.{arith}
use Rattle.columns.proofs.StatLaws.{points_none, points-more}
use Rattle.columns.proofs.stat.stat_line.Goals as goal

pub loop-i-init : goal.loop-i-init
loop-i-init c = points_none _ _ _ _ _ _ _ _ _ _

pub loop-i-preserved : goal.loop-i-preserved
loop-i-preserved c =
    let a = c.args in
    let l = c.loop-i in
    points-more a.sign a.a.now a.b.now a.c.now a.d.now a.r.now a.z a.off a.p.now a.v.now l.i c.turn-t.result.p c.turn-t.result.v l.invariant (omega arith) (omega arith) c.turn-t.ensures.0 c.turn-t.ensures.1

pub returns : goal.returns
returns c =
    let l = c.loop-i in
    let e : c.args.n ≡ l.i = omega (arith, c.loop-i-test.false) in
    rw e l.invariant
