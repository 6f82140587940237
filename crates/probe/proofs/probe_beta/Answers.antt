-- `probe_beta` meets its contract.
use Rattle.probe.specs.Probe.{beta_part}
use borrow.Author.Rules.{rules}
use Rattle.probe.proofs.probe_beta.Goals as goal

pub returns : goal.returns
unfolding beta_part
returns c = cc
