-- `gauss::sum` meets its contract.
use mathlib.Core.Path.{◌≡◌}
use Prim.Native.Nat.{◌≤◌}
use Rattle.kernels.specs.Kernel.{sum_of}
use Rattle.kernels.proofs.gauss.sum.Given as goal

abbrev pub invariant-loop-i : goal.invariant-loop-i
invariant-loop-i l = (l.i ≤ l.n) × (l.s ≡ sum_of l.sigma l.radius l.i)
