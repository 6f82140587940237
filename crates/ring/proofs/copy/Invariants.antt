-- `copy` meets its contract. The loop's invariant: the first i floats are stored.
use mathlib.Core.Path.{◌≡◌}
use Prim.Native.Nat.{◌≤◌}
use lib.ListN.{length, take}
use lib.Seq.{sets}
use Rattle.ring.proofs.copy.Given as goal

abbrev pub invariant-loop-i : goal.invariant-loop-i
invariant-loop-i l = (l.i ≤ length l.column) × (l.ring ≡ sets l.initial.ring l.from (take l.i l.column))
