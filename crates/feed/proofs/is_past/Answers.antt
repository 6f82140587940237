-- `is_past` meets its contract.
use mathlib.Core.Path.{refl}
use Rattle.feed.specs.Feed.{past}
use Rattle.feed.proofs.is_past.Goals as goal

pub returns : goal.returns
unfolding past
returns c = refl
