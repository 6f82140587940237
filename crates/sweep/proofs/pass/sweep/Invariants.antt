-- `pass::sweep` meets its contract. The loop's invariant: what stands before the column col.
use Prim.Native.Nat.{◌-◌, ◌≤◌}
use Rattle.samples.specs.Map.{maps_in}
use Rattle.sweep.specs.Ruled.{Before}
use Rattle.sweep.proofs.pass.sweep.Given as goal

abbrev pub invariant-loop-col : goal.invariant-loop-col
invariant-loop-col l = (3 ≤ l.col) × (l.col ≤ 4096) × Before (maps_in l.map) l.j l.n l.col l.before l.a l.b l.c l.d l.p l.v l.w l.marks

abbrev pub decreases-loop-col : goal.decreases-loop-col
decreases-loop-col l = l.map.frame.cols - l.col
