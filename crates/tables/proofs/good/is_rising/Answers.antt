-- `is_rising` meets its contract.
use mathlib.Core.Path.{refl}
use Rattle.tables.specs.Set.{rising}
use Rattle.tables.proofs.good.is_rising.Goals as goal

pub returns : goal.returns
unfolding rising
returns c = refl
