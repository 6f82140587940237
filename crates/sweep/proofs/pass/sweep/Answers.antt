-- `pass::sweep` meets its contract. The loop's invariant: what stands before the column col.
use borrow.Author.Rules.{rules}
use Prim.Native.Nat.{ℕ}
use native.Mathlib.Omega.{arith}
use lib.ListN.{length-replicate}
use lib.Ieee.{Float}
use Rattle.float.specs.Num.{f0}
use Rattle.sweep.proofs.PassLaws.{before-none, before-all}
use Rattle.sweep.proofs.pass.sweep.Goals as goal

pub loop-col-init : goal.loop-col-init
loop-col-init c = (omega arith, omega arith, before-none _ _ _ _ (record { first = length-replicate {A = Float} 780 f0; second = length-replicate {A = Float} 780 f0; third = length-replicate {A = Float} 780 f0; fourth = length-replicate {A = Float} 780 f0; points = length-replicate {A = Float} 1560 f0; values = length-replicate {A = Float} 1560 f0; words = length-replicate {A = ℕ} 780 0 }) (search rules))

pub step-before-requires : goal.step-before-requires
step-before-requires c =
    let p = c.requires in
    let l = c.loop-col in
    record { n_bound = p.n_bound; le_col = (l.invariant.0, omega arith); before = l.invariant.2 }

pub loop-col-smaller : goal.loop-col-smaller
loop-col-smaller c = omega arith

pub loop-col-preserved : goal.loop-col-preserved
loop-col-preserved c = let l = c.loop-col in let p = c.requires in (omega (arith, l.invariant.0), omega (arith, c.args.map.now.sized.cols-most), c.step-before.ensures)

pub returns : goal.returns
returns c =
    let l = c.loop-col in
    let s = c.args in
    before-all _ s.j s.n l.col l.before s.map.now.frame.cols (omega (arith, c.saturating_sub-col-end.ensures, c.loop-col-test.false)) l.invariant.2
