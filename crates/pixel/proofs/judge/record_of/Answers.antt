-- `judge::record_of` meets its contract.
use Rattle.pixel.specs.Verdict.{record_of}
use Rattle.pixel.proofs.judge.record_of.Goals as goal

pub returns : goal.returns
unfolding record_of
returns c = cc
