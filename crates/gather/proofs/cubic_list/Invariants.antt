-- `cubic_list` meets its contract. The loop's invariant: the cubics beside the first i codes are gathered.
use Prim.Native.Nat.{◌≤◌, ◌-◌}
use Rattle.gather.specs.Gather.{Gathered}
use Rattle.gather.specs.Step.{lines_at}
use Rattle.gather.proofs.cubic_list.Given as goal

abbrev pub invariant-loop-i : goal.invariant-loop-i
invariant-loop-i l = (l.i ≤ l.k) × Gathered l.t (lines_at l.s0 l.s1 l.s2 l.s3) l.z l.n l.i l.codes l.initial.a l.initial.b l.initial.c l.initial.d l.a l.b l.c l.d

abbrev pub decreases-loop-i : goal.decreases-loop-i
decreases-loop-i l = l.k - l.i
