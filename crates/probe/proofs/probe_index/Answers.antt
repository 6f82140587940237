-- `probe_index` meets its contract.
use Rattle.probe.specs.Probe.{level_of}
use borrow.Author.Rules.{rules}
use Rattle.probe.proofs.probe_index.Goals as goal

pub returns : goal.returns
unfolding level_of
returns c = cc
