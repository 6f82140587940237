-- What is not finite in a cubic's extreme over a band. Assumes nothing.
use mathlib.Core.Path.{◌≡◌, refl}
use mathlib.Core.List.{List}
use mathlib.Core.Bool.{Bool, true, false}
use Prim.Native.Nat.{ℕ, zero, suc, ◌<◌}
use native.Mathlib.Omega.{arith}
use lib.Ieee.{Float, nan, inf, fin, mul}
use Rattle.float.specs.Small.{finite}
use Rattle.float.specs.Num.{◌⊗◌}
use Rattle.float.proofs.SmallClaims.{max-left-nan, max-right-nan}
use Rattle.float.proofs.Bools.{all_four, contrary}
use Rattle.fit.specs.Cubic.{◌at◌, coeffs_of, horner_of}
use Rattle.fit.specs.Prims.{ours}
use Rattle.fit.specs.Band.{finite_cubic, sign_of, stationary_of, better_by, extreme_by, extreme_of}
use Rattle.fit.proofs.Finite.{Whole}
use Rattle.fit.proofs.CubicLaws.{lost_sample_no_coefficient}

-- the test of a cubic asks for each coefficient
whole-cubic : (k : List Float) → finite_cubic k ≡ true → Whole k
unfolding finite_cubic
whole-cubic k h = pick (all_four (finite (k at 0)) (finite (k at 1)) (finite (k at 2)) (finite (k at 3)) h) where
  pick : (finite (k at 0) ≡ true) × (finite (k at 1) ≡ true) × (finite (k at 2) ≡ true) × (finite (k at 3) ≡ true) → Whole k
  pick p zero g = p.0
  pick p (suc zero) g = p.1
  pick p (suc (suc zero)) g = p.2
  pick p (suc (suc (suc zero))) g = p.3
  pick p (suc (suc (suc (suc n)))) g = absurd (omega arith)

-- a coefficient that is not finite makes the extreme NaN, whatever the band
pub lost_coefficient_no_extreme : (k : List Float) (i : ℕ) → i < 4 → finite (k at i) ≡ false →
    (low high : Float) (is_max : Bool) → extreme_of k low high is_max ≡ nan
unfolding extreme_by
lost_coefficient_no_extreme k i g h low high is_max = rw (contrary {a = finite_cubic k} (λ t. whole-cubic k t i g) h)

-- and so does a sample that is not finite
pub lost_sample_no_extreme : (t l : List Float) (j : ℕ) → j < 4 → finite (l at j) ≡ false →
    (low high : Float) (is_max : Bool) → extreme_of (coeffs_of t l) low high is_max ≡ nan
lost_sample_no_extreme t l j g h = lost_coefficient_no_extreme (coeffs_of t l) 0 (omega arith) (lost_sample_no_coefficient t l j g h 0)

times_nan : (x : Float) → x ⊗ nan ≡ nan
unfolding mul
times_nan nan = refl
times_nan (inf s) = refl
times_nan (fin s m e) = refl

module _ (k : List Float) (low high : Float) (is_max : Bool) where
  -- the extreme with the value at one end of the band alone, and the stationary point inside it
  abbrev pub from_end : Float → Float
  from_end value = sign_of is_max ⊗ better_by ours k (sign_of is_max) low high (sign_of is_max ⊗ value) (stationary_of k is_max)

  -- with finite coefficients a NaN at the low end is ignored
  pub low_end_ignored : finite_cubic k ≡ true → horner_of k low ≡ nan → extreme_of k low high is_max ≡ from_end (horner_of k high)
  unfolding extreme_by
  low_end_ignored whole h = rw (whole, h, times_nan (sign_of is_max), max-left-nan)

  -- and a NaN at the high end
  pub high_end_ignored : finite_cubic k ≡ true → horner_of k high ≡ nan → extreme_of k low high is_max ≡ from_end (horner_of k low)
  unfolding extreme_by
  high_end_ignored whole h = rw (whole, h, times_nan (sign_of is_max), max-right-nan)
