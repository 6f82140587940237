-- `two_levels` meets its contract. The loop's invariant: the first c columns of both are stored.
use mathlib.Core.Path.{◌≡◌}
use Prim.Native.Nat.{◌≤◌}
use lib.ListN.{length}
use Rattle.grid.specs.Grid.{columns_of, Stored}
use Rattle.blur.specs.Blur.{level_at}
use Rattle.blur.proofs.two_levels.Given as goal

abbrev pub invariant-loop-c : goal.invariant-loop-c
invariant-loop-c l =
    (l.c ≤ l.cols) × (length l.a ≡ 4128) × (length l.b ≡ 4128) × Stored l.initial.x l.x 0 (columns_of (level_at l.raw l.rows l.cols l.j) l.rows l.c) × Stored l.initial.y l.y 0 (columns_of (level_at l.raw l.rows l.cols l.k) l.rows l.c)
