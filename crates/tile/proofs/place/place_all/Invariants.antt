-- `place::place_all` meets its contract. The loop's invariant: Going.
use native.Mathlib.Omega.{arith}
use Prim.Native.Nat.{◌-◌, ◌≤◌}
use mathlib.Core.Path.{◌≡◌}
use Rattle.tile.proofs.PlaceLaws.{Going, going_start, reads_next, going_next, going_end}
use Rattle.tile.proofs.place.place_all.Given as goal

abbrev pub invariant-loop-k : goal.invariant-loop-k
invariant-loop-k l = (l.k ≤ l.n) × Going l.set l.i l.j l.initial.out l.out l.base l.n l.k

abbrev pub decreases-loop-k : goal.decreases-loop-k
decreases-loop-k l = l.n - l.k
