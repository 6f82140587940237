-- `record::record_with` meets its contract. Assumes nothing.
use Rattle.record.specs.Layout.{record_with}
use Rattle.record.proofs.record_with.Goals as goal

pub returns : goal.returns
unfolding record_with
returns c = cc
