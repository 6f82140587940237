-- `check::check_line` meets its contract. The loop's invariant: the first i roots are known.
use lib.Ieee.{nan}
use Rattle.fit.specs.Cubic.{◌at◌}
use Rattle.columns.specs.Line.{Written}
use Rattle.columns.specs.Known.{Known}
use Rattle.columns.proofs.check.check_line.Given as goal

abbrev pub invariant-loop-i : goal.invariant-loop-i
invariant-loop-i l = Written nan l.initial.r l.r 0 l.i (λ j x. Known x (l.q at j))
