-- `along::along` meets its contract. The loop's invariant: the pass by the taps up to t is stored.
use Prim.Native.Nat.{◌-◌, ◌≤◌}
use Rattle.grid.specs.Grid.{list_of, Stored}
use Rattle.blur.specs.Passes.{along_to}
use Rattle.blur.proofs.along.along.Given as goal

abbrev pub invariant-loop-t : goal.invariant-loop-t
invariant-loop-t l = (l.t ≤ l.k.radius) × Stored l.initial.out l.out l.at (list_of (along_to l.line l.rows l.k.taps l.t) l.rows)

abbrev pub decreases-loop-t : goal.decreases-loop-t
decreases-loop-t l = l.k.radius - l.t
