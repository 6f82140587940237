use mathlib.Core.Path.{refl}
use lib.Ieee.{div, of_bits}
use Rattle.fit.proofs.scale_fit.not_a_number.Goals as goal

pub returns : goal.returns
unfolding div of_bits
returns c = refl
