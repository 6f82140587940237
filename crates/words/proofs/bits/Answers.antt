-- `words::bits` meets its contract. Assumes nothing.
use mathlib.Core.Path.{◌≡◌, sym, ap, subst}
use mathlib.Core.Bool.{Bool, true, false, not}
use lib.Dec.{T}
use lib.Ieee.{Float, nan, inf, fin, binary32, eq, ne, is_nan, to_bits}
use lib.Ieee.Compare.{differs_from_itself}
use Rattle.words.proofs.bits.Goals as goal

own-not-nan : (x : Float) → eq x x ≡ true → T (not (is_nan x))
unfolding eq is_nan
own-not-nan nan h = subst T (sym h) tt
own-not-nan (inf s) h = tt
own-not-nan (fin s m e) h = tt

own-nan : (x : Float) → eq x x ≡ false → x ≡ nan
unfolding ne
own-nan x h = differs_from_itself x (subst (λ (b : Bool). T (not b)) (sym h) tt)

pub float_to_bits-result : goal.float_to_bits-result
float_to_bits-result c = own-not-nan _ c.if-x.true

pub returns-else-x : goal.returns-else-x
unfolding to_bits
returns-else-x c = sym (ap (λ (x : Float). to_bits binary32 x) (own-nan _ c.if-x.false))
