-- `coef::coef_line` meets its contract. The loop's invariant: the first i places are written.
use Rattle.columns.specs.Coef.{Coefs}
use Rattle.columns.proofs.coef.coef_line.Given as goal

abbrev pub invariant-loop-i : goal.invariant-loop-i
invariant-loop-i l = Coefs l.t l.s0 l.s1 l.s2 l.s3 l.z l.i l.initial.a l.initial.b l.initial.c l.initial.d l.initial.q l.a l.b l.c l.d l.q
