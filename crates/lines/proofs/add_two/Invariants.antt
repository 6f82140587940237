-- `add_two` meets its contract. The loop's invariant: the first i floats are stored.
use Prim.Native.Nat.{◌≤◌}
use Rattle.grid.specs.Grid.{list_of, Stored}
use Rattle.lines.specs.Lines.{from, more}
use Rattle.lines.proofs.add_two.Given as goal

abbrev pub invariant-loop-i : goal.invariant-loop-i
invariant-loop-i l = (l.i ≤ l.n) × Stored l.initial.out l.out l.at (list_of (more (more (from l.initial.out l.at) l.list l.lo l.hi l.w) l.list l.lo2 l.hi2 l.w2) l.i)
