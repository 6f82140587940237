-- `float::small::abs` meets its contract. Assumes nothing.
use mathlib.Core.Path.{◌≡◌, refl, sym, ◌∙◌, subst, ap}
use Prim.Native.Nat.{zero, suc}
use mathlib.Core.Bool.{true, false, true≢false, false≢true}
use lib.Dec.{T}
use lib.Ieee.{Float, nan, inf, fin, binary32, lt, eq, neg, fits, of_bits}
use Rattle.float.specs.Small.{abs_of}
use Rattle.float.specs.Num.{f0}
use Rattle.float.proofs.Floats.{lt_zero, eq-zero, zero_lt_zero, zero_eq_zero, zero_exp}
use Rattle.float.proofs.small.abs.Goals as goal

below : (x : Float) → lt x f0 ≡ true → neg x ≡ abs_of x
unfolding lt neg abs_of of_bits
below nan h = absurd (false≢true h)
below (inf true) h = refl
below (inf false) h = absurd (false≢true h)
below (fin s zero e) h = absurd (false≢true (sym (zero_lt_zero s e) ∙ h))
below (fin true (suc m) e) h = refl
below (fin false (suc m) e) h = absurd (false≢true (sym (lt_zero false m e) ∙ h))

at_zero : (x : Float) → T (fits binary32 x) → eq x f0 ≡ true → f0 ≡ abs_of x
unfolding eq abs_of of_bits
at_zero nan f h = absurd (false≢true h)
at_zero (inf s) f h = absurd (false≢true h)
at_zero (fin s zero e) f h = ap (fin false 0) (sym (zero_exp s e f))
at_zero (fin s (suc m) e) f h = absurd (false≢true (sym (eq-zero s m e) ∙ h))

above : (x : Float) → lt x f0 ≡ false → eq x f0 ≡ false → x ≡ abs_of x
unfolding lt eq abs_of of_bits
above nan h k = refl
above (inf true) h k = absurd (true≢false h)
above (inf false) h k = refl
above (fin s zero e) h k = absurd (true≢false (sym (zero_eq_zero s e) ∙ k))
above (fin true (suc m) e) h k = absurd (true≢false (sym (lt_zero true m e) ∙ h))
above (fin false (suc m) e) h k = refl

pub returns-then-x : goal.returns-then-x
returns-then-x c = below c.args.x c.if-x.true

pub returns-then-x-2 : goal.returns-then-x-2
returns-then-x-2 c = at_zero c.args.x (subst T (sym c.well_formed.0.1) tt) c.if-x-2.true

pub returns : goal.returns
returns c = above c.args.x c.if-x.false c.if-x-2.false
