-- `judge::admit` meets its contract.
use mathlib.Core.Path.{◌∙◌}
use Rattle.pixel.specs.Verdict.{admit_of}
use Rattle.pixel.proofs.judge.admit.Goals as goal

pub returns-then-is_readable : goal.returns-then-is_readable
unfolding admit_of
returns-then-is_readable c = rw (c.in_ok-refined.was, ← c.record_of-found.ensures, ← c.is_readable.ensures, c.if-is_readable.true)

pub returns-else-is_readable : goal.returns-else-is_readable
unfolding admit_of
returns-else-is_readable c = rw (c.in_ok-refined.was, ← c.record_of-found.ensures, ← c.is_readable.ensures, c.if-is_readable.false)

pub returns-in_err-refined : goal.returns-in_err-refined
unfolding admit_of
returns-in_err-refined c = c.from_residual.ensures ∙ rw c.in_err-refined.was
