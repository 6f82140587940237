-- `copy::copy_tile` meets its contract. The loop's invariant: the first c columns are stored.
use mathlib.Core.Path.{◌≡◌}
use Prim.Native.Nat.{◌≤◌, ◌-◌}
use lib.Seq.{sets}
use Rattle.tiles.specs.Copy.{tile_level}
use Rattle.tiles.proofs.copy.copy_tile.Given as goal

abbrev pub invariant-loop-c : goal.invariant-loop-c
invariant-loop-c l = (l.c ≤ l.w) × (l.out ≡ sets l.initial.out 0 (tile_level l.level l.rows l.r0 l.c0 l.h l.c))

abbrev pub decreases-loop-c : goal.decreases-loop-c
decreases-loop-c l = l.w - l.c
