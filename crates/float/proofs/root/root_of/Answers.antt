-- `float::root::root_of` meets its contract: `Trial` says what holds after each bit. The measure is the next bit's square. Assumes nothing.
use mathlib.Core.Path.{◌≡◌, subst}
use Prim.Native.Nat.{◌<◌}
use native.Mathlib.Omega.{arith}
use Rattle.float.proofs.Trial.{Found, none_yet, bit_taken, bit_left, all_tried}
use Rattle.float.proofs.root.root_of.Goals as goal
use Rattle.float.proofs.root.root_of.Goals.{then-tried-rest, else-tried-rest}

pub loop-bit-init : goal.loop-bit-init
loop-bit-init c = (omega arith, omega arith, none_yet c.args.n c.requires)

pub overflow_add-tried : goal.overflow_add-tried
overflow_add-tried c = omega arith

pub overflow_add-root : goal.overflow_add-root
overflow_add-root c = omega arith

pub loop-bit-smaller : goal.loop-bit-smaller
loop-bit-smaller c = omega arith

pub loop-bit-preserved : goal.loop-bit-preserved
loop-bit-preserved c =
    let n = c.args.n in
    let s = c.loop-bit in
    let some : 0 < s.bit = omega arith in
    elim c.if-tried-rest.branch [
      | then-tried-rest w ↦ rw (w.rest-is, w.root-is) (omega arith, omega arith, bit_taken n s.rest s.root s.bit s.invariant.2 some (omega (arith, w.if-tried-rest.true)))
      | else-tried-rest w ↦ rw (w.rest-is, w.root-is) (omega arith, omega arith, bit_left n s.rest s.root s.bit s.invariant.2 some (omega (arith, w.if-tried-rest.false)))
    ]

pub returns : goal.returns
returns c =
    let n = c.args.n in
    let s = c.loop-bit in
    let none : s.bit ≡ 0 = omega arith in
    all_tried n s.rest s.root c.requires (subst (Found n s.rest s.root) none s.invariant.2)
