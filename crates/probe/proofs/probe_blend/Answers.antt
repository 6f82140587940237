-- `probe_blend` meets its contract.
use Rattle.probe.specs.Probe.{blend_part}
use borrow.Author.Rules.{rules}
use Rattle.probe.proofs.probe_blend.Goals as goal

pub returns : goal.returns
unfolding blend_part
returns c = cc
