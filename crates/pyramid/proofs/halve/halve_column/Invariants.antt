-- `halve::halve_column` meets its contract. The loop's invariant: the first r floats of the column are stored.
use Prim.Native.Nat.{◌≤◌}
use Rattle.grid.specs.Grid.{list_of, Stored}
use Rattle.pyramid.specs.Pyramid.{second_of}
use Rattle.pyramid.proofs.halve.halve_column.Given as goal

abbrev pub invariant-loop-r : goal.invariant-loop-r
invariant-loop-r l = (l.r ≤ l.n) × Stored l.initial.out l.out l.at (list_of (second_of l.level l.p) l.r)
