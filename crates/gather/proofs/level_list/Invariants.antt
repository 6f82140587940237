-- `level_list` meets its contract. The loop's invariant: the samples beside the first i codes are in the line.
use Prim.Native.Nat.{◌≤◌, ◌-◌}
use Rattle.gather.specs.Step.{sample_from, Sampled}
use Rattle.gather.proofs.level_list.Given as goal

abbrev pub invariant-loop-i : goal.invariant-loop-i
invariant-loop-i l = (l.i ≤ l.k) × Sampled (sample_from l.l l.r l.left l.mid l.right l.square) l.n l.i l.codes l.s

abbrev pub decreases-loop-i : goal.decreases-loop-i
decreases-loop-i l = l.k - l.i
