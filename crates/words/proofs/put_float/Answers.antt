-- `words::put_float` meets its contract. Assumes nothing.
use Rattle.words.specs.Words.{float_bytes}
use Rattle.words.proofs.put_float.Goals as goal

pub returns : goal.returns
unfolding float_bytes
returns c = cc
