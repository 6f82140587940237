use mathlib.Core.Path.{refl}
use Rattle.fit.specs.Cubic.{horner_of}
use Rattle.fit.proofs.scale_fit.horner.Goals as goal

pub returns : goal.returns
unfolding horner_of
returns c = refl
