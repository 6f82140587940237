-- `gate::is_owned_high` meets its contract.
use mathlib.Core.Path.{refl}
use Rattle.fit.specs.Owned.{owned_by}
use Rattle.columns.proofs.gate.is_owned_high.Goals as goal

pub returns : goal.returns
unfolding owned_by
returns c = refl
