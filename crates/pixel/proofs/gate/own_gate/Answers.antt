-- `gate::own_gate` meets its contract.
use Rattle.pixel.proofs.gate.own_gate.Goals as goal

pub returns : goal.returns
returns c = cc
