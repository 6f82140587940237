-- `probe_cubic` meets its contract.
use Rattle.probe.specs.Probe.{cubic_of}
use borrow.Author.Rules.{rules}
use Rattle.probe.proofs.probe_cubic.Goals as goal

pub returns : goal.returns
unfolding cubic_of
returns c = cc
