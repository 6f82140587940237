-- `checks::is_usable` meets its contract.
use mathlib.Core.Path.{refl}
use Rattle.desks.specs.Desks.{usable}
use Rattle.desks.proofs.checks.is_usable.Goals as goal

pub returns : goal.returns
unfolding usable
returns c = refl
