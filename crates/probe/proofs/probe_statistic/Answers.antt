-- `probe_statistic` meets its contract.
use Rattle.probe.specs.Probe.{statistic_part}
use borrow.Author.Rules.{rules}
use Rattle.probe.proofs.probe_statistic.Goals as goal

pub returns : goal.returns
unfolding statistic_part
returns c = cc
