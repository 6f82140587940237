-- `add_four` meets its contract. The loop's invariant: the first i floats are stored.
use Prim.Native.Nat.{◌+◌, ◌≤◌, ◌-◌}
use mathlib.Core.Path.{◌≡◌}
use lib.ListN.{length}
use Rattle.grid.specs.Grid.{list_of, Stored}
use Rattle.lines.specs.Lines.{from, more}
use Rattle.lines.proofs.add_four.Given as goal

abbrev pub invariant-loop-i : goal.invariant-loop-i
invariant-loop-i l =
    (l.i ≤ l.n) × (length l.out ≡ length l.initial.out) × Stored l.initial.out l.out l.at
    (list_of (more (more (more (more (from l.initial.out l.at) l.list l.lo l.hi l.w) l.list (l.lo - 1) (l.hi + 1) l.w2) l.list (l.lo - 2) (l.hi + 2) l.w3) l.list (l.lo - 3) (l.hi + 3) l.w4) l.i)
