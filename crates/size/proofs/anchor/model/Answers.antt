-- `model` meets its contract.
use Rattle.size.specs.Correct.{model_of}
use Rattle.size.proofs.anchor.model.Goals as goal

pub returns : goal.returns
unfolding model_of
returns c = rw (← c.signed_root.ensures)
