-- `weight` meets its contract.
use Rattle.size.specs.Correct.{weight_of}
use Rattle.size.proofs.anchor.weight.Goals as goal

pub returns : goal.returns
unfolding weight_of
returns c = rw (← c.clamp.ensures)
