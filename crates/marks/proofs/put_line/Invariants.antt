-- `put_line` meets its contract. The loop's invariant: the first i bytes of the column are written.
use Prim.Native.Nat.{◌≤◌}
use Rattle.marks.proofs.MarksLaws.{Puts}
use Rattle.marks.proofs.put_line.Given as goal

abbrev pub invariant-loop-i : goal.invariant-loop-i
invariant-loop-i l = (l.i ≤ 32) × Puts l.keep l.col l.i l.initial.marks l.marks
