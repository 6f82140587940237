-- `halve::halve_level` meets its contract. The loop's invariant: the first c columns are stored.
use Prim.Native.Nat.{◌≤◌}
use Rattle.grid.specs.Grid.{columns_of, Stored}
use Rattle.pyramid.specs.Pyramid.{taken_of}
use Rattle.pyramid.proofs.halve.halve_level.Given as goal

abbrev pub invariant-loop-c : goal.invariant-loop-c
invariant-loop-c l = (l.c ≤ l.width) × Stored l.initial.out l.out 0 (columns_of (taken_of l.level l.rows) l.height l.c)
