-- A sample that is not finite is seen in every coefficient, whatever the table, and so in the curvature at every sigma. Assumes nothing.
use mathlib.Core.Path.{◌≡◌}
use mathlib.Core.List.{List}
use mathlib.Core.Bool.{true, false}
use Prim.Native.Nat.{ℕ, zero, suc, ◌+◌, ◌<◌}
use native.Mathlib.Omega.{arith}
use lib.Ieee.{Float}
use Rattle.float.specs.Small.{finite}
use Rattle.float.specs.Num.{◌⊕◌, ◌⊖◌, ◌⊗◌, f6}
use Rattle.float.proofs.Bools.{contrary}
use Rattle.fit.specs.Cubic.{◌at◌, row_of, coeffs_of, curvature_of}
use Rattle.float.proofs.Finite.{sum-finite, difference_finite, product_finite}
use Rattle.fit.proofs.Finite.{Whole}

module _ (t l : List Float) where
  -- a row weighs each difference, and each difference holds the last sample
  row-whole : (i : ℕ) → finite (row_of t i (l at 0 ⊖ l at 3) (l at 1 ⊖ l at 3) (l at 2 ⊖ l at 3)) ≡ true → Whole l
  unfolding row_of
  row-whole i h = pick where
    two : (finite (t at i ⊗ (l at 0 ⊖ l at 3) ⊕ t at (i + 1) ⊗ (l at 1 ⊖ l at 3)) ≡ true) × (finite (t at (i + 2) ⊗ (l at 2 ⊖ l at 3)) ≡ true)
    two = sum-finite _ _ h

    one : (finite (t at i ⊗ (l at 0 ⊖ l at 3)) ≡ true) × (finite (t at (i + 1) ⊗ (l at 1 ⊖ l at 3)) ≡ true)
    one = sum-finite _ _ two.0

    pick : Whole l
    pick zero g = (difference_finite (l at 0) (l at 3) (product_finite (t at i) _ one.0).1).0
    pick (suc zero) g = (difference_finite (l at 1) (l at 3) (product_finite (t at (i + 1)) _ one.1).1).0
    pick (suc (suc zero)) g = (difference_finite (l at 2) (l at 3) (product_finite (t at (i + 2)) _ two.1).1).0
    pick (suc (suc (suc zero))) g = (difference_finite (l at 0) (l at 3) (product_finite (t at i) _ one.0).1).1
    pick (suc (suc (suc (suc n)))) g = absurd (omega arith)

  -- where one coefficient is finite, all four samples are
  pub finite_coefficient_finite_samples : (i : ℕ) → finite (coeffs_of t l at i) ≡ true → Whole l
  unfolding coeffs_of finite
  finite_coefficient_finite_samples zero h = row-whole 0 h
  finite_coefficient_finite_samples (suc zero) h = row-whole 3 h
  finite_coefficient_finite_samples (suc (suc zero)) h = row-whole 6 h
  finite_coefficient_finite_samples (suc (suc (suc zero))) h = row-whole 9 (sum-finite _ _ h).0
  finite_coefficient_finite_samples (suc (suc (suc (suc n)))) h = let z : ◌≡◌ {A = ℕ} 0 1 = cc in absurd (omega arith)

  -- and where the curvature at some sigma is
  pub finite_curvature_finite_samples : (s : Float) → finite (curvature_of (coeffs_of t l) s) ≡ true → Whole l
  unfolding curvature_of
  finite_curvature_finite_samples s h = finite_coefficient_finite_samples 0 (product_finite f6 _ (product_finite _ s (sum-finite _ _ h).0).0).1

  -- so a sample that is not finite leaves no coefficient finite
  pub lost_sample_no_coefficient : (j : ℕ) → j < 4 → finite (l at j) ≡ false → (i : ℕ) → finite (coeffs_of t l at i) ≡ false
  lost_sample_no_coefficient j g lost i = contrary (λ h. finite_coefficient_finite_samples i h j g) lost

  -- nor the curvature at any sigma
  pub lost_sample_no_curvature : (j : ℕ) → j < 4 → finite (l at j) ≡ false → (s : Float) → finite (curvature_of (coeffs_of t l) s) ≡ false
  lost_sample_no_curvature j g lost s = contrary (λ h. finite_curvature_finite_samples s h j g) lost
