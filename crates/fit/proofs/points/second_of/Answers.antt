use mathlib.Core.Path.{refl}
use Rattle.fit.specs.Envelope.{second_of}
use Rattle.fit.proofs.points.second_of.Goals as goal

pub returns : goal.returns
unfolding second_of
returns c = refl
