-- `words::float_from` meets its contract. Assumes nothing.
use Rattle.words.specs.Words.{float_from}
use Rattle.words.proofs.float_from.Goals as goal

pub returns : goal.returns
unfolding float_from
returns c = cc
