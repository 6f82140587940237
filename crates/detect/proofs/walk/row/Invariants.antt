-- `walk::row` meets its contract. The loop's invariant: what the first k judged pixels of the row list is taken.
use Prim.Native.Nat.{◌+◌, ◌≤◌, ◌-◌}
use Rattle.samples.specs.Map.{maps_in}
use Rattle.detect.specs.Due.{row_due}
use Rattle.detect.proofs.walk.row.Given as goal

abbrev pub invariant-loop-k : goal.invariant-loop-k
invariant-loop-k g l = (l.k ≤ l.map.frame.cols - 8) × g.T.Taker.took l.initial.to (row_due (maps_in l.map) (l.j + 4) l.k) l.to
