-- `words::read_floats` meets its contract.
use mathlib.Core.Path.{◌≡◌}
use Prim.Native.Nat.{◌≤◌}
use lib.ListN.{length, take}
use Rattle.words.specs.Words.{floats_at}
use Rattle.words.proofs.read_floats.Given as goal

abbrev pub invariant-loop-k : goal.invariant-loop-k
invariant-loop-k l = (l.k ≤ length l.out) × (length l.out ≡ length l.initial.out) × (take l.k l.out ≡ floats_at l.k l.bytes l.i)
