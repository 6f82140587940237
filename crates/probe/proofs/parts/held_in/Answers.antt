-- `parts::held_in` meets its contract.
use Rattle.probe.specs.Probe.{held}
use borrow.Author.Rules.{rules}
use Rattle.probe.proofs.parts.held_in.Goals as goal

pub returns : goal.returns
unfolding held
returns c = cc
