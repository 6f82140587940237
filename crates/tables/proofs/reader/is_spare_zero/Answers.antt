-- `is_spare_zero` meets its contract.
use mathlib.Core.Path.{refl}
use Rattle.tables.specs.Set.{spare_zero}
use Rattle.tables.proofs.reader.is_spare_zero.Goals as goal

pub returns : goal.returns
unfolding spare_zero
returns c = refl
