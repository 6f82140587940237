-- `thresholds_from` meets its contract.
use Rattle.input.proofs.thresholds_from.Goals as goal

pub returns : goal.returns
returns c = cc
