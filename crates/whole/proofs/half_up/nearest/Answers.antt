-- `whole::nearest` meets its contract. Assumes nothing.
use mathlib.Core.Path.{sym, ap, ◌∙◌, subst}
use lib.Dec.{T}
use Rattle.whole.specs.Nearest.{nearest_bits}
use Rattle.whole.proofs.Patterns.{bits_nearest}
use Rattle.whole.proofs.half_up.nearest.Goals as goal

pub returns : goal.returns
returns c = c.near_bits.ensures ∙ ap nearest_bits c.bits.ensures ∙ bits_nearest c.args.x (subst T (sym c.well_formed.0.1) tt)
