-- `add_both` meets its contract. The loop's invariant: the first i floats of both lines are stored.
use Prim.Native.Nat.{◌≤◌}
use mathlib.Core.Path.{◌≡◌}
use lib.ListN.{length}
use Rattle.grid.specs.Grid.{list_of, Stored}
use Rattle.lines.specs.Lines.{from, more}
use Rattle.lines.proofs.add_both.Given as goal

abbrev pub invariant-loop-i : goal.invariant-loop-i
invariant-loop-i l =
    (l.i ≤ l.n) × (length l.a ≡ length l.initial.a) × (length l.b ≡ length l.initial.b) × Stored l.initial.a l.a 16 (list_of (more (more (from l.initial.a 16) l.list l.lo l.hi l.u) l.list l.lo2 l.hi2 l.u2) l.i)
    × Stored l.initial.b l.b 16 (list_of (more (more (from l.initial.b 16) l.list l.lo l.hi l.v) l.list l.lo2 l.hi2 l.v2) l.i)
