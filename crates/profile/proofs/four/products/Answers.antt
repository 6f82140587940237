-- `products` meets its contract.
use Rattle.profile.specs.Four.{products_of}
use mathlib.Core.Path.{refl}
use Rattle.profile.proofs.four.products.Goals as goal

pub returns : goal.returns
unfolding products_of
returns c = refl
