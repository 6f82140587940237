-- `probe_envelope` meets its contract.
use Rattle.probe.specs.Probe.{envelope_part}
use borrow.Author.Rules.{rules}
use Rattle.probe.proofs.probe_envelope.Goals as goal

pub returns : goal.returns
unfolding envelope_part
returns c = cc
