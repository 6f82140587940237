use mathlib.Core.Path.{refl}
use Rattle.fit.specs.Envelope.{within}
use Rattle.fit.proofs.stream.is_within.Goals as goal

pub returns : goal.returns
unfolding within
returns c = refl
