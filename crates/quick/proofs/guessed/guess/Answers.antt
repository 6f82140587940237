-- `quick::guessed::guess` meets its contract. Assumes nothing.
use Rattle.std.proofs.Common.{le_of_lt, arith}
use Rattle.float.proofs.Patterns.{not-nan_pattern}
use Rattle.quick.proofs.guessed.guess.Goals as goal

pub float_from_bits-x : goal.float_from_bits-x
float_from_bits-x c = not-nan_pattern _ (le_of_lt c.requires)

pub overflow_sub-y0 : goal.overflow_sub-y0
overflow_sub-y0 c = omega arith

pub float_from_bits-y0 : goal.float_from_bits-y0
float_from_bits-y0 c = not-nan_pattern _ (omega arith)
