-- `gate::gate_line` meets its contract. The loop's invariant: the first i words are written, and none exceeds `any`.
use mathlib.Core.Path.{◌≡◌}
use native.Mathlib.Omega.{arith}
use Rattle.columns.proofs.WordLaws.{words-none, words_more}
use Rattle.columns.proofs.gate.gate_line.Goals as goal

pub loop-i-init : goal.loop-i-init
loop-i-init c = words-none _ _ _ _ _ _ _ _ _ _

pub loop-i-preserved : goal.loop-i-preserved
loop-i-preserved c =
    let a = c.args in
    let l = c.loop-i in
    words_more a.g a.s0.now a.s1.now a.s2.now a.s3.now a.r.now a.p.now a.v.now a.z a.w.now l.i c.word-x.result l.any l.invariant (omega arith) c.word-x.ensures.0

pub returns : goal.returns
returns c =
    let l = c.loop-i in
    let e : c.args.n ≡ l.i = omega (arith, c.loop-i-test.false) in
    rw e l.invariant
