-- `word_from` meets its contract.
use native.Mathlib.Omega.{arith}
use Rattle.words.specs.Words.{word_from}
use Rattle.words.proofs.word_from.Goals as goal

pub returns : goal.returns
unfolding word_from
returns c = omega arith
