-- `bytes::state_of` meets its contract.
use Rattle.states.specs.Bytes.{state_of}
use Rattle.states.proofs.bytes.state_of.Goals as goal

pub returns : goal.returns
unfolding state_of
returns c = rw (c.set_of-set.ensures, c.thresholds_of-thresholds.ensures, c.word_from.ensures, c.word_from-2.ensures, c.word_from-3.ensures)
