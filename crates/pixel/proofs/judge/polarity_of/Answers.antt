-- `judge::polarity_of` meets its contract.
use Rattle.std.proofs.Common.{rules}
use Rattle.pixel.specs.Verdict.{polarity_of}
use Rattle.pixel.proofs.judge.polarity_of.Goals as goal

pub returns : goal.returns
unfolding polarity_of
returns c = search rules
