-- `probe_extrema` meets its contract.
use Rattle.probe.specs.Probe.{extrema_part}
use borrow.Author.Rules.{rules}
use Rattle.probe.proofs.probe_extrema.Goals as goal

pub returns : goal.returns
unfolding extrema_part
returns c = cc
