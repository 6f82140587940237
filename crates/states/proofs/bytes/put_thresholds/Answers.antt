-- `bytes::put_thresholds` meets its contract.
use Rattle.states.proofs.StateLaws.{thresholds_parts}
use Rattle.states.proofs.bytes.put_thresholds.Goals as goal

pub returns : goal.returns
returns c = rw (c.put_float-5.ensures, c.put_float-4.ensures, c.put_float-3.ensures, c.put_float-2.ensures, c.put_float.ensures) (thresholds_parts c.args.state.now c.args.th)
