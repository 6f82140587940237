-- `all_set` meets its contract.
use Rattle.tables.specs.Set.{all_set}
use Rattle.tables.proofs.good.all_set.Goals as goal

pub returns : goal.returns
unfolding all_set
returns c = rw (c.all_finite-5.ensures, c.all_finite-4.ensures, c.all_finite-3.ensures, c.all_finite-2.ensures, c.all_finite.ensures)
