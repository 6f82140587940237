-- `logexp::logarithm::join` meets its contract. Assumes nothing.
use mathlib.Core.Path.{ap}
use borrow.Author.Tests.{le-leb, lt-leb}
use lib.Ieee.{neg}
use Rattle.logexp.specs.Log.{joined}
use Rattle.logexp.proofs.logarithm.join.Goals as goal

pub returns-then-e-ge149 : goal.returns-then-e-ge149
unfolding joined
returns-then-e-ge149 c = simp (le-leb _ _ c.if-e-ge149.true) c.scaled.ensures

pub returns-else-e-ge149 : goal.returns-else-e-ge149
unfolding joined
returns-else-e-ge149 c = simp (lt-leb _ _ c.if-e-ge149.false) (ap neg c.scaled-else-e-ge149.ensures)
