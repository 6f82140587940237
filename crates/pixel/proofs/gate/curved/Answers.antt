-- `gate::curved` meets its contract.
use Rattle.pixel.specs.Gate.{curved_of}
use Rattle.pixel.proofs.gate.curved.Goals as goal

pub returns : goal.returns
unfolding curved_of
returns c = cc
