-- `place_of` meets its contract.
use Rattle.size.specs.Correct.{place_of}
use Rattle.size.proofs.anchor.place_of.Goals as goal

pub returns : goal.returns
unfolding place_of
returns c = rw (← c.log2.ensures)
