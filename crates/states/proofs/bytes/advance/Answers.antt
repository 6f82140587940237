-- `bytes::advance` meets its contract.
use Rattle.states.proofs.bytes.advance.Goals as goal

pub returns : goal.returns
returns c = rw (c.put_word.ensures, c.word_from-n.ensures)
