-- `parts::minus` meets its contract.
use Rattle.probe.specs.Probe.{minus_of}
use borrow.Author.Rules.{rules}
use Rattle.probe.proofs.parts.minus.Goals as goal

pub returns-in-Samples : goal.returns-in-Samples
unfolding minus_of
returns-in-Samples c = rw c.in-Samples.is

pub returns-in-Quotients : goal.returns-in-Quotients
unfolding minus_of
returns-in-Quotients c = rw c.in-Quotients.is

pub returns-in-Line : goal.returns-in-Line
unfolding minus_of
returns-in-Line c = rw c.in-Line.is

pub returns-in-Energy : goal.returns-in-Energy
unfolding minus_of
returns-in-Energy c = rw c.in-Energy.is
