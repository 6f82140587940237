-- `probe_refine` meets its contract.
use Rattle.probe.specs.Probe.{refine_part}
use borrow.Author.Rules.{rules}
use Rattle.probe.proofs.probe_refine.Goals as goal

pub returns : goal.returns
unfolding refine_part
returns c = cc
