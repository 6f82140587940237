-- `bytes::thresholds_of` meets its contract.
use Rattle.states.specs.Bytes.{state_of}
use Rattle.states.proofs.bytes.thresholds_of.Goals as goal

pub returns : goal.returns
unfolding state_of
returns c = rw (c.float_from.ensures, c.float_from-2.ensures, c.float_from-3.ensures, c.float_from-4.ensures, c.float_from-5.ensures)
