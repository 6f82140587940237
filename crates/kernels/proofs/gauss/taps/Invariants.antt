-- `gauss::taps` meets its contract.
use Rattle.kernels.specs.Kernel.{taps_of}
use lib.ListN.{length, take}
use Prim.Native.Nat.{◌≤◌}
use mathlib.Core.Path.{◌≡◌}
use Rattle.kernels.proofs.gauss.taps.Given as goal

abbrev pub invariant-loop-t : goal.invariant-loop-t
invariant-loop-t l = (l.t ≤ 17) × ((length l.a ≡ 17) × (take l.t l.a ≡ taps_of l.sigma l.radius l.t))
