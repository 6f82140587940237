-- `parts::numbers` meets its contract. The loop's invariant: the first j numbers are written.
use Prim.Native.Nat.{ℕ, ◌+◌, ◌<◌}
use mathlib.Core.Path.{◌≡◌}
use lib.ListN.{length, get_or}
use lib.Ieee.{nan}
use Rattle.fit.specs.Cubic.{◌at◌}
use Rattle.probe.proofs.parts.numbers.Given as goal

abbrev pub invariant-loop-j : goal.invariant-loop-j
invariant-loop-j g l = (length l.v ≡ g.row.N) × ((k : ℕ) → k < l.j → get_or l.v k nan ≡ l.list at (l.i + k))
