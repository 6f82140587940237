-- `table::count_of` meets its contract.
use Rattle.desks.specs.Table.{slot_of}
use Rattle.desks.proofs.table.count_of.Goals as goal

pub returns : goal.returns
unfolding slot_of
returns c = c.word_from.ensures
