-- A test of every index holds exactly where it holds at each; the test of one place.
use mathlib.Core.Path.{◌≡◌, refl, ◌∙◌, ap}
use mathlib.Core.Bool.{Bool, true, false, and-false}
use Prim.Native.Nat.{ℕ, suc, zero, ◌+◌, ◌<◌, suc-le-suc}
use native.Mathlib.Nat.{not-suc-le-zero, le_of_suc-le-suc}
use native.Mathlib.Omega.{arith}
use Rattle.float.proofs.Bools.{both}
use mathlib.Core.List.{List, []}
use lib.Dec.{eqb}
use lib.ListN.{length, get_or}
use lib.Ieee.{Float}
use Rattle.fit.specs.Cubic.{coeffs_of}
use Rattle.fit.specs.declared.Band.{Band}
use Rattle.pixel.specs.Ring.{all_of, beats_cubic, beats_by, beats_of}
use Rattle.pixel.specs.Verdict.{cubics_of}
use Rattle.pixel.proofs.NineLaws.{cubics_place}

module _ (p : ℕ → Bool) where
  all_from : (n i : ℕ) → ((k : ℕ) → k < n → p (i + k) ≡ true) → all_of n i p ≡ true
  unfolding all_of
  all_from zero i h = refl
  all_from (suc n) i h =
      let e : p i ≡ true = ap p (omega arith) ∙ h 0 (omega arith) in
      rw (e, all_from n (suc i) (λ k b. ap p (omega arith) ∙ h (suc k) (suc-le-suc b)))

  none_from : (n i k : ℕ) → k < n → p (i + k) ≡ false → all_of n i p ≡ false
  unfolding all_of
  none_from zero i k b e = absurd (not-suc-le-zero b)
  none_from (suc n) i zero b e = let e' : p i ≡ false = ap p (omega arith) ∙ e in rw e'
  none_from (suc n) i (suc k) b e =
      let e' : all_of n (suc i) p ≡ false = none_from n (suc i) k (le_of_suc-le-suc b) (ap p (omega arith) ∙ e) in
      rw (e', and-false)

  each_from : (n i : ℕ) → all_of n i p ≡ true → (k : ℕ) → k < n → p (i + k) ≡ true
  unfolding all_of
  each_from zero i h k b = absurd (not-suc-le-zero b)
  each_from (suc n) i h zero b = ap p (omega arith) ∙ (both (p i) (all_of n (suc i) p) h).0
  each_from (suc n) i h (suc k) b = ap p (omega arith) ∙ each_from n (suc i) (both (p i) (all_of n (suc i) p) h).1 k (le_of_suc-le-suc b)

  pub all_true : (n : ℕ) → ((k : ℕ) → k < n → p k ≡ true) → all_of n 0 p ≡ true
  all_true n h = all_from n 0 (λ k b. ap p (omega arith) ∙ h k b)

  pub all_false : (n k : ℕ) → k < n → p k ≡ false → all_of n 0 p ≡ false
  all_false n k b e = none_from n 0 k b (ap p (omega arith) ∙ e)

  pub all-each : (n : ℕ) → all_of n 0 p ≡ true → (k : ℕ) → k < n → p k ≡ true
  all-each n h k b = ap p (omega arith) ∙ each_from n 0 h k b

-- the test of one of the nine places, from its samples
pub beats-place : (t : List Float) (nine : List (List Float)) (peak : Float) (band : Band) (is_max : Bool) (i : ℕ) → i < length nine → eqb i 4 ≡ false →
    beats_of (cubics_of t nine) peak band is_max i ≡ beats_cubic (coeffs_of t (get_or nine i [])) peak band is_max
unfolding beats_by beats_cubic
beats-place t nine peak band is_max i h other = rw (other, cubics_place t nine i h)

-- the pixel itself is left out
pub beats_itself : (k : List (List Float)) (peak : Float) (band : Band) (is_max : Bool) (i : ℕ) → eqb i 4 ≡ true → beats_of k peak band is_max i ≡ true
unfolding beats_by
beats_itself k peak band is_max i itself = rw itself
