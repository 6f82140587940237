-- `bytes::write_state` meets its contract.
use native.Mathlib.Omega.{arith}
use lib.Seq.{take_all}
use Rattle.states.proofs.StateLaws.{opened_parts}
use Rattle.states.proofs.bytes.write_state.Goals as goal

pub returns : goal.returns
returns c =
    let a = c.args in
    rw (c.put_numbers.ensures, c.put_thresholds.ensures, c.put_first.ensures, take_all 528 a.set.now (omega (arith, c.requires.set_len.0))) (opened_parts a.state.now a.set.now a.th a.rows a.cols a.octave c.requires.set_len.0)
