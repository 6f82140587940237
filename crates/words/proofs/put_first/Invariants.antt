-- `put_first` meets its contract. The loop's invariant: the first k bytes are copied.
use Prim.Native.Nat.{◌≤◌}
use mathlib.Core.Path.{◌≡◌}
use lib.ListN.{take}
use lib.Seq.{sets}
use Rattle.words.proofs.put_first.Given as goal

abbrev pub invariant-loop-k : goal.invariant-loop-k
invariant-loop-k l = (l.k ≤ l.n) × (l.out ≡ sets l.initial.out l.at (take l.k l.s))
