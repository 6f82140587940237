-- `mark_column` meets its contract. The loop's invariant: the marks of the pixels before the j-th are put.
use Rattle.samples.specs.Map.{four_in}
use Rattle.rule.proofs.RuleLaws.{RuledTo}
use Rattle.rule.proofs.mark_column.Given as goal

abbrev pub invariant-loop-j : goal.invariant-loop-j
invariant-loop-j l =
    RuledTo l.column.state (four_in l.column.ring) (four_in l.column.given) l.n l.j l.marks
