-- `sample::log_lines` meets its contract. The loop's invariant: the first i samples of each level are written.
use Rattle.columns.specs.Sample.{Samples}
use Rattle.columns.proofs.sample.log_lines.Given as goal

abbrev pub invariant-loop-i : goal.invariant-loop-i
invariant-loop-i l = Samples l.l0 l.l1 l.l2 l.l3 l.q0 l.q1 l.q2 l.q3 l.left l.mid l.right l.i l.initial.s0 l.initial.s1 l.initial.s2 l.initial.s3 l.s0 l.s1 l.s2 l.s3
