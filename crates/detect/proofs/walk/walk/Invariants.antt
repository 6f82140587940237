-- `walk::walk` meets its contract. The loop's invariant: what the first j judged rows list is taken.
use mathlib.Core.Path.{◌≡◌}
use Prim.Native.Nat.{◌%◌, ◌≤◌, ◌<◌}
use lib.ListN.{length}
use Rattle.samples.specs.Map.{maps_in}
use Rattle.sweep.specs.Ruled.{Block}
use Rattle.detect.specs.Due.{rows_due}
use Rattle.detect.proofs.walk.walk.Given as goal

abbrev pub invariant-loop-j : goal.invariant-loop-j
invariant-loop-j g l = (l.j ≤ l.n) × g.T.Taker.took l.initial.to (rows_due (maps_in l.map) l.j) l.to × (length l.marks ≡ 131072) × (0 < l.j % 254 → Block (maps_in l.map) l.j l.marks)
