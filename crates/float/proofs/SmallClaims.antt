-- What is claimed of finiteness, absolute value, max, min and clamp. Assumes nothing.
use mathlib.Core.Path.{◌≡◌, refl}
use mathlib.Core.Logic.{◌⊎◌, inl, inr}
use Prim.Native.Nat.{ℕ}
use mathlib.Core.Bool.{Bool, true, false, not, cond}
use lib.IntN.{ℤ, pos}
use lib.Dec.{T}
use lib.Ieee.{Float, nan, inf, fin, of_bits, lt, eq, neg, is_nan}
use lib.Ieee.Bits.{is_true, is_false}
use Rattle.float.specs.Num.{f0}
use Rattle.float.specs.Small.{finite, abs_of, min_of, max_of, clamp_of}
use Rattle.float.specs.Claims.{not_negative}
use Rattle.float.proofs.Order.{lt-nan, equal_number, equal_not_below, equal_not-above, below_number, below_one_way, not_below_over}

-- ---- is_finite: no NaN and no infinity
pub finite-nan : finite nan ≡ false
unfolding finite
finite-nan = refl

pub finite_infinity : (s : Bool) → finite (inf s) ≡ false
unfolding finite
finite_infinity s = refl

pub finite_number : (s : Bool) (m : ℕ) (e : ℤ) → finite (fin s m e) ≡ true
unfolding finite
finite_number s m e = refl

-- ---- abs: the value or its opposite, never with a sign; NaN stays NaN
pub abs-nan : abs_of nan ≡ nan
unfolding abs_of
abs-nan = refl

pub abs_zero : (s : Bool) → abs_of (fin s 0 (pos 0)) ≡ f0
unfolding abs_of of_bits
abs_zero s = refl

pub abs_either : (x : Float) → (abs_of x ≡ x) ⊎ (abs_of x ≡ neg x)
unfolding abs_of neg
abs_either nan = inl refl
abs_either (inf false) = inl refl
abs_either (inf true) = inr refl
abs_either (fin false m e) = inl refl
abs_either (fin true m e) = inr refl

pub abs_never_negative : (x : Float) → T (not_negative (abs_of x))
unfolding abs_of
abs_never_negative nan = tt
abs_never_negative (inf s) = tt
abs_never_negative (fin s m e) = tt

-- ---- max: one NaN is ignored, of two equal numbers the left is given, of two others the larger
pub max-left-nan : (b : Float) → max_of nan b ≡ b
unfolding max_of is_nan
max-left-nan b = refl

pub max-right-nan : (a : Float) → max_of a nan ≡ a
unfolding max_of is_nan
max-right-nan nan = refl
max-right-nan (inf s) = rw (lt-nan (inf s)).0
max-right-nan (fin s m e) = rw (lt-nan (fin s m e)).0

pub max_equal : (a b : Float) → T (eq a b) → max_of a b ≡ a
unfolding max_of
max_equal a b h = rw (equal_number a b h, equal_not_below a b h)

pub max-rising : (a b : Float) → T (lt a b) → max_of a b ≡ b
unfolding max_of
max-rising a b h = rw ((below_number a b h).0, is_true (lt a b) h)

pub max_falling : (a b : Float) → T (lt b a) → max_of a b ≡ a
unfolding max_of
max_falling a b h = rw ((below_number b a h).1, below_one_way a b h)

-- ---- min: the same with the smaller
pub min-left-nan : (b : Float) → min_of nan b ≡ b
unfolding min_of is_nan
min-left-nan b = refl

pub min-right-nan : (a : Float) → min_of a nan ≡ a
unfolding min_of is_nan
min-right-nan nan = refl
min-right-nan (inf s) = rw (lt-nan (inf s)).1
min-right-nan (fin s m e) = rw (lt-nan (fin s m e)).1

pub min_equal : (a b : Float) → T (eq a b) → min_of a b ≡ a
unfolding min_of
min_equal a b h = rw (equal_number a b h, equal_not-above a b h)

pub min-rising : (a b : Float) → T (lt a b) → min_of a b ≡ a
unfolding min_of
min-rising a b h = rw ((below_number a b h).0, below_one_way b a h)

pub min_falling : (a b : Float) → T (lt b a) → min_of a b ≡ b
unfolding min_of
min_falling a b h = rw ((below_number b a h).1, is_true (lt b a) h)

-- ---- clamp, for any bounds, reversed ones and NaNs too
pub clamp_nan : (low high : Float) → clamp_of nan low high ≡ nan
unfolding clamp_of
clamp_nan low high = rw ((lt-nan low).1, (lt-nan high).0)

pub clamp_below : (x low high : Float) → T (lt x low) → clamp_of x low high ≡ low
unfolding clamp_of
clamp_below x low high h = rw (is_true (lt x low) h)

pub clamp_above : (x low high : Float) → T (not (lt x low)) → T (lt high x) → clamp_of x low high ≡ high
unfolding clamp_of
clamp_above x low high h k = rw (is_false (lt x low) h, is_true (lt high x) k)

pub clamp_within : (x low high : Float) → T (not (lt x low)) → T (not (lt high x)) → clamp_of x low high ≡ x
unfolding clamp_of
clamp_within x low high h k = rw (is_false (lt x low) h, is_false (lt high x) k)

-- with reversed bounds a number gives low where it is below low, and else high
pub clamp_reversed : (x low high : Float) → T (lt high low) → T (not (is_nan x)) → clamp_of x low high ≡ cond (lt x low) low high
unfolding clamp_of
clamp_reversed x low high u n = go (lt x low) refl
  where
    go : (b : Bool) → lt x low ≡ b → cond b low (cond (lt high x) high x) ≡ cond b low high
    go true e = refl
    go false e = rw (is_true (lt high x) (not_below_over high low x u e n))
