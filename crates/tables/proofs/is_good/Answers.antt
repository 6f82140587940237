-- `is_good` meets its contract.
use Rattle.tables.specs.Set.{good}
use Rattle.tables.proofs.is_good.Goals as goal

pub returns : goal.returns
unfolding good
returns c = rw (c.all_under.ensures, c.is_rising.ensures, c.all_set.ensures)
