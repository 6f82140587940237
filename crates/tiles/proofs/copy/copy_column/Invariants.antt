-- `copy::copy_column` meets its contract. The loop's invariant: the first r floats are stored.
use mathlib.Core.Path.{◌≡◌}
use Prim.Native.Nat.{◌≤◌}
use lib.ListN.{take, drop}
use lib.Seq.{sets}
use Rattle.tiles.proofs.copy.copy_column.Given as goal

abbrev pub invariant-loop-r : goal.invariant-loop-r
invariant-loop-r l = (l.r ≤ l.n) × (l.out ≡ sets l.initial.out l.at (take l.r (drop l.p l.level)))
