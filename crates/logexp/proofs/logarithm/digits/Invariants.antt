-- `logexp::logarithm::digits` meets its contract: after i turns y and f are what the definition's i steps give. Assumes nothing.
use mathlib.Core.Path.{◌≡◌}
use Prim.Native.Nat.{◌^◌, ◌≤◌, ◌<◌}
use Rattle.logexp.specs.Log.{squared, digits_of}
use Rattle.logexp.proofs.logarithm.digits.Given as goal

abbrev pub invariant-loop : goal.invariant-loop
invariant-loop l = (l.counter ≤ 21) × (l.y ≡ squared l.counter l.w) × (l.f ≡ digits_of l.counter l.w) × (l.y < 2 ^ 32) × (l.f < 2 ^ 21)
