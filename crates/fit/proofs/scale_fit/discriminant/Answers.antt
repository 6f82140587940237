use mathlib.Core.Path.{refl}
use Rattle.fit.specs.Cubic.{discriminant_of}
use Rattle.fit.proofs.scale_fit.discriminant.Goals as goal

pub returns : goal.returns
unfolding discriminant_of
returns c = refl
