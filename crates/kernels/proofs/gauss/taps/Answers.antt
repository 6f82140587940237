-- `gauss::taps` meets its contract.
use Rattle.kernels.specs.Kernel.{taps_of}
use lib.Seq.{take-suc-set, take_all}
use lib.ListN.{length, length-set}
use native.Mathlib.Omega.{arith}
use native.Mathlib.Numerals.{add-one}
use Prim.Native.Nat.{◌≤◌, ◌<◌}
use mathlib.Core.Path.{◌≡◌, refl, sym, ◌∙◌}
use Rattle.kernels.proofs.gauss.taps.Goals as goal

pub loop-t-init : goal.loop-t-init
unfolding taps_of
loop-t-init c = (omega arith, (refl, refl))

pub tap-requires : goal.tap-requires
tap-requires c = (omega arith, omega arith, c.sum-total.ensures)

pub loop-t-preserved : goal.loop-t-preserved
unfolding taps_of
loop-t-preserved c =
    let l = c.loop-t in
    let below : l.t < length l.a = omega arith in
    (omega arith, (simp length-set l.invariant.1.0, rw (add-one, take-suc-set l.a l.t c.tap.result below, l.invariant.1.1, c.tap.ensures)))

pub returns : goal.returns
returns c =
    let l = c.loop-t in
    let all : length l.a ≤ l.t = omega arith in
    let end : l.t ≡ 17 = omega arith in
    sym (take_all l.t l.a all) ∙ l.invariant.1.1 ∙ rw end
