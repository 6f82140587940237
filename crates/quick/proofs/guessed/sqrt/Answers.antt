-- `quick::guessed::sqrt` meets its contract. Assumes nothing.
use Rattle.std.proofs.Common.{le_of_lt}
use Rattle.float.proofs.Patterns.{not-nan_pattern}
use Rattle.quick.proofs.guessed.sqrt.Goals as goal

pub float_from_bits-result : goal.float_from_bits-result
float_from_bits-result c = not-nan_pattern _ (le_of_lt c.tried-t.ensures.0)

pub returns-then-t : goal.returns-then-t
returns-then-t c = c.tried-t.ensures.1 c.if-t.true
