-- `parts::leaves` meets its contract.
use Rattle.probe.specs.Probe.{leaves_of}
use borrow.Author.Rules.{rules}
use Rattle.probe.proofs.parts.leaves.Goals as goal

pub returns : goal.returns
unfolding leaves_of
returns c = cc
