-- `float::root::root_of` meets its contract: `Trial` says what holds after each bit. The measure is the next bit's square. Assumes nothing.
use Prim.Native.Nat.{◌^◌, ◌≤◌}
use Rattle.float.proofs.Trial.{Found}
use Rattle.float.proofs.root.root_of.Given as goal

abbrev pub invariant-loop-bit : goal.invariant-loop-bit
invariant-loop-bit l = (l.root ≤ 2 ^ 48) × (l.bit ≤ 2 ^ 46) × Found l.n l.rest l.root l.bit

abbrev pub decreases-loop-bit : goal.decreases-loop-bit
decreases-loop-bit l = l.bit
