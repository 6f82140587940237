use mathlib.Core.Path.{refl}
use Rattle.fit.specs.Cubic.{row_of}
use Rattle.fit.proofs.scale_fit.row.Goals as goal

pub returns : goal.returns
unfolding row_of
returns c = refl
