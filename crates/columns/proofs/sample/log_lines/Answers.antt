-- `sample::log_lines` meets its contract. The loop's invariant: the first i samples of each level are written.
use mathlib.Core.Path.{◌≡◌}
use native.Mathlib.Omega.{arith}
use Rattle.columns.proofs.SampleLaws.{samples_none, samples_more}
use Rattle.columns.proofs.sample.log_lines.Goals as goal

pub loop-i-init : goal.loop-i-init
loop-i-init c = samples_none _ _ _ _ _ _ _ _ _ _ _ _ _ _ _

pub overflow_add-left : goal.overflow_add-left
overflow_add-left c = let h = c.requires.reach.0.0 in omega (arith, h.before, h.most)

pub overflow_add-mid : goal.overflow_add-mid
overflow_add-mid c = let h = c.requires.reach.0.0 in omega (arith, h.down, h.most)

pub overflow_add-right : goal.overflow_add-right
overflow_add-right c = let h = c.requires.reach.0.0 in omega (arith, h.after, h.most)

pub stencil-requires : goal.stencil-requires
stencil-requires c = let h = c.requires.reach.0.0 in record { le_mid = (omega (arith, h.up), omega (arith, h.down)); left_in_bounds = (omega (arith, h.before), omega (arith, h.after)) }

pub overflow_add-left-in-loop-i : goal.overflow_add-left-in-loop-i
overflow_add-left-in-loop-i c = let h = c.requires.reach.0.1 in omega (arith, h.before, h.most)

pub overflow_add-mid-in-loop-i : goal.overflow_add-mid-in-loop-i
overflow_add-mid-in-loop-i c = let h = c.requires.reach.0.1 in omega (arith, h.down, h.most)

pub overflow_add-right-in-loop-i : goal.overflow_add-right-in-loop-i
overflow_add-right-in-loop-i c = let h = c.requires.reach.0.1 in omega (arith, h.after, h.most)

pub stencil-requires-in-loop-i : goal.stencil-requires-in-loop-i
stencil-requires-in-loop-i c = let h = c.requires.reach.0.1 in record { le_mid = (omega (arith, h.up), omega (arith, h.down)); left_in_bounds = (omega (arith, h.before), omega (arith, h.after)) }

pub overflow_add-left-in-loop-i-2 : goal.overflow_add-left-in-loop-i-2
overflow_add-left-in-loop-i-2 c = let h = c.requires.reach.1.0 in omega (arith, h.before, h.most)

pub overflow_add-mid-in-loop-i-2 : goal.overflow_add-mid-in-loop-i-2
overflow_add-mid-in-loop-i-2 c = let h = c.requires.reach.1.0 in omega (arith, h.down, h.most)

pub overflow_add-right-in-loop-i-2 : goal.overflow_add-right-in-loop-i-2
overflow_add-right-in-loop-i-2 c = let h = c.requires.reach.1.0 in omega (arith, h.after, h.most)

pub stencil-requires-in-loop-i-2 : goal.stencil-requires-in-loop-i-2
stencil-requires-in-loop-i-2 c = let h = c.requires.reach.1.0 in record { le_mid = (omega (arith, h.up), omega (arith, h.down)); left_in_bounds = (omega (arith, h.before), omega (arith, h.after)) }

pub overflow_add-left-in-loop-i-3 : goal.overflow_add-left-in-loop-i-3
overflow_add-left-in-loop-i-3 c = let h = c.requires.reach.1.1 in omega (arith, h.before, h.most)

pub overflow_add-mid-in-loop-i-3 : goal.overflow_add-mid-in-loop-i-3
overflow_add-mid-in-loop-i-3 c = let h = c.requires.reach.1.1 in omega (arith, h.down, h.most)

pub overflow_add-right-in-loop-i-3 : goal.overflow_add-right-in-loop-i-3
overflow_add-right-in-loop-i-3 c = let h = c.requires.reach.1.1 in omega (arith, h.after, h.most)

pub stencil-requires-in-loop-i-3 : goal.stencil-requires-in-loop-i-3
stencil-requires-in-loop-i-3 c = let h = c.requires.reach.1.1 in record { le_mid = (omega (arith, h.up), omega (arith, h.down)); left_in_bounds = (omega (arith, h.before), omega (arith, h.after)) }

pub loop-i-preserved : goal.loop-i-preserved
loop-i-preserved c =
    let a = c.args in
    let l = c.loop-i in
    samples_more a.levels.now.l0.now a.levels.now.l1.now a.levels.now.l2.now a.levels.now.l3.now a.q0 a.q1 a.q2 a.q3 a.left a.mid a.right a.s0.now a.s1.now a.s2.now a.s3.now l.i c.stencil.result c.stencil-in-loop-i.result c.stencil-in-loop-i-2.result c.stencil-in-loop-i-3.result l.invariant
    (omega arith) (omega arith) (omega arith) (omega arith) c.stencil.ensures c.stencil-in-loop-i.ensures c.stencil-in-loop-i-2.ensures c.stencil-in-loop-i-3.ensures

pub returns : goal.returns
returns c =
    let l = c.loop-i in
    let e : c.args.n ≡ l.i = omega (arith, c.loop-i-test.false) in
    rw e l.invariant
