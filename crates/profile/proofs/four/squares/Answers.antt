-- `squares` meets its contract.
use Rattle.profile.specs.Four.{squares_of, products_of}
use Rattle.profile.proofs.four.squares.Goals as goal

pub returns : goal.returns
unfolding squares_of products_of
returns c = rw c.products.ensures
