-- `rows_of` meets its contract.
use mathlib.Core.Path.{refl}
use Rattle.nine.specs.Nine.{rows_of}
use Rattle.nine.proofs.rows_of.Goals as goal

pub returns : goal.returns
unfolding rows_of
returns c = refl
