-- `blank` meets its contract.
use mathlib.Core.Path.{refl}
use Rattle.tables.specs.Set.{blank}
use Rattle.tables.proofs.reader.blank.Goals as goal

pub returns : goal.returns
unfolding blank
returns c = refl
