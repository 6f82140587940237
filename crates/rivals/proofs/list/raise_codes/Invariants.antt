-- `list::raise_codes` meets its contract. The loop's invariant: the first codes have raised their pixels.
use mathlib.Core.Bool.{false}
use Rattle.rivals.specs.List.{Raised}
use Rattle.rivals.proofs.list.raise_codes.Given as goal

abbrev pub invariant-loop-code : goal.invariant-loop-code
invariant-loop-code g l = Raised (λ e. goal.F-post g l.is_left e false) l.codes l.code-index l.initial.keep l.keep
