-- `coef::under_root` meets its contract.
use Rattle.columns.specs.Coef.{under_root_of}
use Rattle.columns.proofs.coef.under_root.Goals as goal

pub returns : goal.returns
unfolding under_root_of
returns c = rw (c.pick.ensures, c.beyond.ensures)
