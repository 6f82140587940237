-- `put_first` meets its contract. The loop's invariant: the first k bytes are copied.
use Prim.Native.Nat.{◌≤◌}
use native.Mathlib.Omega.{arith}
use mathlib.Core.Path.{◌≡◌, refl, ap, ◌∙◌}
use lib.ListN.{length, take}
use lib.Seq.{length-sets}
use Rattle.words.proofs.Parts.{copied_first}
use Rattle.words.proofs.put_first.Goals as goal

pub loop-k-init : goal.loop-k-init
loop-k-init c = (omega arith, refl)

pub bounds-out-at : goal.bounds-out-at
bounds-out-at c = omega (arith, ap length c.loop-k.invariant.1, length-sets c.args.out.now c.args.at (take c.loop-k.k c.args.s.now))

pub loop-k-preserved : goal.loop-k-preserved
loop-k-preserved c =
    let a = c.args in
    let l = c.loop-k in
    let fits : a.n ≤ length a.s.now = omega arith in
    (omega arith, rw l.invariant.1 (copied_first a.out.now a.s.now a.at a.n l.k 0 (omega arith) fits))

pub shape_of-out : goal.shape_of-out
shape_of-out c = ap length c.loop-k.invariant.1 ∙ length-sets c.args.out.now c.args.at (take c.loop-k.k c.args.s.now)

pub returns : goal.returns
returns c = let end : c.loop-k.k ≡ c.args.n = omega arith in rw end at c.loop-k.invariant.1
