-- `judge::anchor` meets its contract.
use Rattle.pixel.specs.Verdict.{anchor_of}
use Rattle.pixel.proofs.judge.anchor.Goals as goal

pub returns : goal.returns
unfolding anchor_of
returns c = cc
