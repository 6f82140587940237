-- `record::is_on_side` meets its contract. Assumes nothing.
use mathlib.Core.Path.{◌∙◌}
use Rattle.record.specs.Readable.{on_side}
use Rattle.record.proofs.is_on_side.Goals as goal

pub returns-then-n-eq0 : goal.returns-then-n-eq0
unfolding on_side
returns-then-n-eq0 c = c.is_within.ensures ∙ rw c.if-n-eq0.true

pub returns-else-n-eq0 : goal.returns-else-n-eq0
unfolding on_side
returns-else-n-eq0 c = c.is_within-else-n-eq0.ensures
