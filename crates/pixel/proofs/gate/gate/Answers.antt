-- `gate::gate` meets its contract.
use Rattle.pixel.specs.Gate.{gate_by}
use borrow.Author.Tests.{not-true, not-false}
use Rattle.pixel.proofs.gate.gate.Goals as goal

pub returns-then-not-is_within : goal.returns-then-not-is_within
unfolding gate_by
returns-then-not-is_within c = rw (← c.is_within.ensures, not-true c.is_within.result c.if-not-is_within.true-raw)

pub returns-then-not-strong : goal.returns-then-not-strong
unfolding gate_by
returns-then-not-strong c = rw (← c.is_within.ensures, ← c.strong.ensures, not-true c.strong.result c.if-not-strong.true-raw, not-false c.is_within.result c.if-not-is_within.false-raw)

pub returns-then-not-curved : goal.returns-then-not-curved
unfolding gate_by
returns-then-not-curved c = rw (← c.is_within.ensures, ← c.strong.ensures, ← c.curved.ensures, not-true c.curved.result c.if-not-curved.true-raw, not-false c.strong.result c.if-not-strong.false-raw, not-false c.is_within.result c.if-not-is_within.false-raw)

pub returns : goal.returns
unfolding gate_by
returns c = rw (c.owns_scale_extremum.ensures, ← c.is_within.ensures, ← c.strong.ensures, ← c.curved.ensures, not-false c.curved.result c.if-not-curved.false-raw, not-false c.strong.result c.if-not-strong.false-raw, not-false c.is_within.result c.if-not-is_within.false-raw)
