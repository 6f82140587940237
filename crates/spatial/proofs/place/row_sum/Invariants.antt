-- `place::row_sum` meets its contract. The loop keeps that what is summed and what is left make the whole row's sum.
use Rattle.spatial.specs.Place.{sum_from}
use mathlib.Core.Path.{◌≡◌}
use Prim.Native.Nat.{◌≤◌, ◌-◌, ◌+◌, ◌*◌}
use Rattle.float.specs.Num.{◌⊗◌, f0}
use Rattle.fit.specs.Cubic.{◌at◌}
use Rattle.spatial.proofs.place.row_sum.Given as goal

abbrev pub invariant-loop-i : goal.invariant-loop-i
invariant-loop-i l = (l.i ≤ 9) × (sum_from (9 - l.i) l.i l.acc (λ j. l.w at (l.base + j) ⊗ l.v at j) ≡ sum_from 9 0 f0 (λ j. l.w at (l.block + 9 * l.row + j) ⊗ l.v at j))
