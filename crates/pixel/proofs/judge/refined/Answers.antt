-- `judge::refined` meets its contract.
use Rattle.pixel.proofs.judge.refined.Goals as goal

pub returns : goal.returns
returns c = cc
