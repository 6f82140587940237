-- `record::record_from` meets its contract. Assumes nothing.
use Rattle.record.specs.Layout.{record_from}
use Rattle.record.proofs.record_from.Goals as goal

pub returns : goal.returns
unfolding record_from
returns c = cc
