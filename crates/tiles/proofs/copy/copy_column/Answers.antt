-- `copy::copy_column` meets its contract. The loop's invariant: the first r floats are stored.
use mathlib.Core.Path.{◌≡◌, refl, ap, ◌∙◌}
use Prim.Native.Nat.{◌+◌, ◌≤◌}
use native.Mathlib.Omega.{arith}
use lib.ListN.{length, take, drop}
use lib.Seq.{length-sets}
use lib.Ieee.{nan}
use Rattle.words.proofs.Parts.{copied_next}
use Rattle.tiles.proofs.copy.copy_column.Goals as goal

pub loop-r-init : goal.loop-r-init
loop-r-init c = (omega arith, refl)

pub bounds-out-at : goal.bounds-out-at
bounds-out-at c = omega (arith, ap length c.loop-r.invariant.1, length-sets c.args.out.now c.args.at (take c.loop-r.r (drop c.args.p c.args.level.now)))

pub loop-r-preserved : goal.loop-r-preserved
loop-r-preserved c =
    let a = c.args in
    let l = c.loop-r in
    let fits : a.p + a.n ≤ length a.level.now = omega arith in
    (omega arith, rw l.invariant.1 (copied_next a.out.now a.level.now a.at a.p a.n l.r nan (omega arith) fits))

pub shape_of-out : goal.shape_of-out
shape_of-out c = ap length c.loop-r.invariant.1 ∙ length-sets c.args.out.now c.args.at (take c.loop-r.r (drop c.args.p c.args.level.now))

pub returns : goal.returns
returns c = let end : c.loop-r.r ≡ c.args.n = omega arith in rw end at c.loop-r.invariant.1
