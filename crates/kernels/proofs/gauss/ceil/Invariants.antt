-- `gauss::ceil` meets its contract. The loop's invariant: every number under n is below x.
use mathlib.Core.Path.{◌≡◌}
use mathlib.Core.Bool.{true}
use Prim.Native.Nat.{ℕ, ◌≤◌, ◌<◌}
use lib.Ieee.{lt}
use Rattle.kernels.specs.Kernel.{float}
use Rattle.kernels.proofs.gauss.ceil.Given as goal

abbrev pub invariant-loop-n : goal.invariant-loop-n
invariant-loop-n l = (l.n ≤ 16) × ((k : ℕ) → k < l.n → lt (float k) l.x ≡ true)
