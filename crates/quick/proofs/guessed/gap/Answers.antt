-- `quick::guessed::gap` meets its contract. Assumes nothing.
use Rattle.std.proofs.Common.{arith}
use Rattle.quick.proofs.Normal.{square_le}
use Rattle.quick.proofs.guessed.gap.Goals as goal

pub overflow_mul-k : goal.overflow_mul-k
overflow_mul-k c = omega (arith, square_le c.args.k (omega arith))
