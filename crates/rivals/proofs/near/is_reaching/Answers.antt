-- `near::is_reaching` meets its contract.
use mathlib.Core.Path.{refl}
use Rattle.rivals.specs.Near.{reaches}
use Rattle.rivals.proofs.near.is_reaching.Goals as goal

pub returns : goal.returns
unfolding reaches
returns c = refl
