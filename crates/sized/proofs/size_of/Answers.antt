-- `size_of` meets its contract.
use Rattle.sized.specs.Sized.{size_of}
use Rattle.sized.proofs.size_of.Goals as goal

pub returns : goal.returns
unfolding size_of
returns c = c.corrected_sigma_from_anchor.ensures
