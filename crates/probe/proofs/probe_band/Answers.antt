-- `probe_band` meets its contract.
use Rattle.probe.specs.Probe.{end_of}
use borrow.Author.Rules.{rules}
use Rattle.probe.proofs.probe_band.Goals as goal

pub returns : goal.returns
unfolding end_of
returns c = cc
