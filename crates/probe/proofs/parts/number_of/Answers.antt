-- `parts::number_of` meets its contract.
use Rattle.probe.specs.Probe.{number_of}
use borrow.Author.Rules.{rules}
use Rattle.probe.proofs.parts.number_of.Goals as goal

pub returns-in-Ok : goal.returns-in-Ok
unfolding number_of
returns-in-Ok c = search rules

pub returns-in-Err : goal.returns-in-Err
unfolding number_of
returns-in-Err c = rw (c.in-Err.is, ← c.minus.ensures)
