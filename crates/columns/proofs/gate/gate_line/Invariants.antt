-- `gate::gate_line` meets its contract. The loop's invariant: the first i words are written, and none exceeds `any`.
use Rattle.columns.specs.Gate.{Words}
use Rattle.columns.proofs.gate.gate_line.Given as goal

abbrev pub invariant-loop-i : goal.invariant-loop-i
invariant-loop-i l = Words l.g l.s0 l.s1 l.s2 l.s3 l.r l.p l.v l.z l.i l.initial.w l.w l.any
