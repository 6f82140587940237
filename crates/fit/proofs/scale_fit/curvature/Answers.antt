use mathlib.Core.Path.{refl}
use Rattle.fit.specs.Cubic.{curvature_of}
use Rattle.fit.proofs.scale_fit.curvature.Goals as goal

pub returns : goal.returns
unfolding curvature_of
returns c = refl
