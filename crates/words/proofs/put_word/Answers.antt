-- `put_word` meets its contract.
use Rattle.words.specs.Words.{word_bytes}
use Rattle.words.proofs.put_word.Goals as goal

pub returns : goal.returns
unfolding word_bytes
returns c = rw (c.put_first.ensures, c.to_le_bytes.ensures)
