-- `record::old_from` meets its contract. Assumes nothing.
use Rattle.record.specs.Layout.{old_from}
use Rattle.record.proofs.old_from.Goals as goal

pub returns : goal.returns
unfolding old_from
returns c = cc
