-- `weigh` meets its contract. The loop's invariant: the first i floats are stored.
use Prim.Native.Nat.{◌≤◌}
use Rattle.grid.specs.Grid.{list_of, Stored}
use Rattle.lines.specs.Lines.{weighed}
use Rattle.lines.proofs.weigh.Given as goal

abbrev pub invariant-loop-i : goal.invariant-loop-i
invariant-loop-i l = (l.i ≤ l.n) × Stored l.initial.out l.out l.at (list_of (weighed l.list l.p l.w) l.i)
