-- `probe_model` meets its contract.
use Rattle.probe.specs.Probe.{model_part}
use borrow.Author.Rules.{rules}
use Rattle.probe.proofs.probe_model.Goals as goal

pub returns : goal.returns
unfolding model_part
returns c = cc
