-- `bytes::put_numbers` meets its contract.
use Rattle.states.proofs.StateLaws.{numbers_parts}
use Rattle.states.proofs.bytes.put_numbers.Goals as goal

pub returns : goal.returns
returns c =
    let a = c.args in
    rw (c.put_bytes.ensures, c.put_word-3.ensures, c.put_word-2.ensures, c.put_word.ensures) (numbers_parts a.state.now a.rows a.cols a.octave)
