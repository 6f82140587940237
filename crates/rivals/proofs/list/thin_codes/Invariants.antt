-- `list::thin_codes` meets its contract. The loop's invariant: the first j entries are thinned to m, the others are as they were.
use mathlib.Core.Bool.{true}
use Rattle.rivals.proofs.ListLaws.{Thinning}
use Rattle.rivals.proofs.list.thin_codes.Given as goal

abbrev pub invariant-loop-j : goal.invariant-loop-j
invariant-loop-j g l = Thinning (λ e. goal.F-post g l.is_out e true) l.initial.codes l.j l.codes l.m
