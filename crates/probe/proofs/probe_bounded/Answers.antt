-- `probe_bounded` meets its contract.
use Rattle.probe.specs.Probe.{bounded_part}
use borrow.Author.Rules.{rules}
use Rattle.probe.proofs.probe_bounded.Goals as goal

pub returns : goal.returns
unfolding bounded_part
returns c = cc
