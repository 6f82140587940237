-- `gauss::sum` meets its contract.
use mathlib.Core.Path.{◌≡◌, refl}
use Prim.Native.Nat.{◌+◌, ◌*◌}
use native.Mathlib.Numerals.{add-one}
use native.Mathlib.Omega.{arith}
use Rattle.kernels.specs.Kernel.{sum_of}
use Rattle.kernels.proofs.gauss.sum.Goals as goal

pub loop-i-init : goal.loop-i-init
unfolding sum_of
loop-i-init c = (omega arith, refl)

pub weight-s-requires : goal.weight-s-requires
weight-s-requires c = (omega arith, omega arith)

pub loop-i-preserved : goal.loop-i-preserved
unfolding sum_of
loop-i-preserved c = (omega arith, rw (add-one, c.loop-i.invariant.1, c.weight-s.ensures))

pub returns : goal.returns
returns c =
    let l = c.loop-i in
    let end : l.i ≡ 2 * c.args.radius + 1 = omega arith in
    rw end at l.invariant.1
