-- `table::owner_of` meets its contract.
use Rattle.desks.specs.Table.{slot_of}
use Rattle.desks.proofs.table.owner_of.Goals as goal

pub returns : goal.returns
unfolding slot_of
returns c = c.wide.ensures
