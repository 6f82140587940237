-- `stat::stat_line` meets its contract. The loop's invariant: the first i points are written.
use Rattle.columns.specs.Stat.{Points}
use Rattle.columns.proofs.stat.stat_line.Given as goal

abbrev pub invariant-loop-i : goal.invariant-loop-i
invariant-loop-i l = Points l.sign l.a l.b l.c l.d l.r l.z l.off l.i l.initial.p l.initial.v l.p l.v
