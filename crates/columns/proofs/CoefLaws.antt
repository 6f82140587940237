-- Laws of the cubics of a line. Assumes nothing.
use Prim.Native.Nat.{ℕ, ◌+◌, ◌<◌}
use mathlib.Core.Path.{◌≡◌, refl, sym, ap, ◌∙◌}
use mathlib.Core.Bool.{Bool, true, false, ◌||◌}
use mathlib.Core.List.{List, [], ◌∷◌}
use native.Mathlib.Nat.{zero-add}
use lib.ListN.{length, set}
use lib.Dec.{T}
use lib.Ieee.{Float, nan, inf, fin, lt, neg, of_bits, odd, binary32, fits}
use lib.Ieee.Fits.{add-fits}
use Rattle.float.specs.Small.{abs_of}
use Rattle.float.specs.Num.{◌⊕◌, ◌⊖◌, f1e_6}
use Rattle.fit.specs.Cubic.{◌at◌, row_of, coeffs_of, discriminant_of}
use Rattle.columns.specs.Coef.{under_root, under_root_of, cubic_at, Stored, Coefs}
use Rattle.columns.proofs.LineLaws.{written_none, written-more}

-- ---- the size of a number, by two comparisons
or-false : (b : Bool) → (b || false) ≡ b
or-false true = refl
or-false false = refl

pub beyond_is : (x : Float) → (lt f1e_6 x || lt x (neg f1e_6)) ≡ lt f1e_6 (abs_of x)
unfolding lt neg abs_of of_bits odd
beyond_is nan = refl
beyond_is (inf true) = refl
beyond_is (inf false) = refl
beyond_is (fin true m e) = refl
beyond_is (fin false m e) = or-false _

-- ---- one cubic, coefficient by coefficient
module _ (t l : List Float) where
  abbrev d0 : Float
  d0 = l at 0 ⊖ l at 3

  abbrev d1 : Float
  d1 = l at 1 ⊖ l at 3

  abbrev d2 : Float
  d2 = l at 2 ⊖ l at 3

  pub coefficients : (coeffs_of t l at 0 ≡ row_of t 0 d0 d1 d2) × (coeffs_of t l at 1 ≡ row_of t 3 d0 d1 d2) × (coeffs_of t l at 2 ≡ row_of t 6 d0 d1 d2) × (coeffs_of t l at 3 ≡ row_of t 9 d0 d1 d2 ⊕ l at 3)
  unfolding coeffs_of
  coefficients = (refl, refl, refl, refl)

pub root-by_three : (k : List Float) → under_root k ≡ under_root_of (k at 0) (k at 1) (k at 2)
unfolding under_root under_root_of discriminant_of
root-by_three k = refl

-- ---- a turn of the loop
module _ (t s0 s1 s2 s3 : List Float) (z : ℕ) (a b c d q : List Float) where
  pub coefs_none : Coefs t s0 s1 s2 s3 z 0 a b c d q a b c d q
  coefs_none = record {
    first = written_none nan a z _;
    second = written_none nan b z _;
    third = written_none nan c z _;
    fourth = written_none nan d z _;
    root = written_none nan q 0 _;
  }

  pub coefs_more : (i : ℕ) (a₁ b₁ c₁ d₁ q₁ a₂ b₂ c₂ d₂ q₂ : List Float) → Coefs t s0 s1 s2 s3 z i a b c d q a₁ b₁ c₁ d₁ q₁ →
      z + i < length a → z + i < length b → z + i < length c → z + i < length d → i < length q →
      Stored (coeffs_of t (s0 at i ∷ s1 at i ∷ s2 at i ∷ s3 at i ∷ [])) (z + i) i a₁ b₁ c₁ d₁ q₁ a₂ b₂ c₂ d₂ q₂ → Coefs t s0 s1 s2 s3 z (i + 1) a b c d q a₂ b₂ c₂ d₂ q₂
  unfolding cubic_at
  coefs_more i a₁ b₁ c₁ d₁ q₁ a₂ b₂ c₂ d₂ q₂ w la lb lc ld lq s = record {
    first = written-more nan a₂ _ w.first la s.first refl;
    second = written-more nan b₂ _ w.second lb s.second refl;
    third = written-more nan c₂ _ w.third lc s.third refl;
    fourth = written-more nan d₂ _ w.fourth ld s.fourth refl;
    root = written-more nan q₂ (under_root (cubic_at t s0 s1 s2 s3 i)) w.root (rw zero-add lq) (rw zero-add s.root) refl;
  }

-- ---- the stores of one pixel
pub stored : (t : List Float) (l0 l1 l2 l3 : Float) (m i : ℕ) (a b c d q : List Float) (ka kb kc kd r : Float) →
    ka ≡ row_of t 0 (l0 ⊖ l3) (l1 ⊖ l3) (l2 ⊖ l3) → kb ≡ row_of t 3 (l0 ⊖ l3) (l1 ⊖ l3) (l2 ⊖ l3) → kc ≡ row_of t 6 (l0 ⊖ l3) (l1 ⊖ l3) (l2 ⊖ l3) → kd ≡ row_of t 9 (l0 ⊖ l3) (l1 ⊖ l3) (l2 ⊖ l3) →
    r ≡ under_root_of ka kb kc → Stored (coeffs_of t (l0 ∷ l1 ∷ l2 ∷ l3 ∷ [])) m i a b c d q (set a m ka) (set b m kb) (set c m kc) (set d m (kd ⊕ l3)) (set q i r)
stored t l0 l1 l2 l3 m i a b c d q ka kb kc kd r ea eb ec ed er =
    let k : List Float = coeffs_of t (l0 ∷ l1 ∷ l2 ∷ l3 ∷ []) in
    let is = coefficients t (l0 ∷ l1 ∷ l2 ∷ l3 ∷ []) in
    let fa : ka ≡ k at 0 = ea ∙ sym is.0 in
    let fb : kb ≡ k at 1 = eb ∙ sym is.1 in
    let fc : kc ≡ k at 2 = ec ∙ sym is.2 in
    let fd : kd ⊕ l3 ≡ k at 3 = ap (λ (x : Float). x ⊕ l3) ed ∙ sym is.3 in
    record {
      first = ap (set a m) fa;
      second = ap (set b m) fb;
      third = ap (set c m) fc;
      fourth = ap (set d m) fd;
      root = ap (set q i) (er ∙ rw (fa, fb, fc) (sym (root-by_three k)));
    }

-- every coefficient fits
pub coefficient_fits : (t l : List Float) → T (fits binary32 (coeffs_of t l at 1))
unfolding coeffs_of row_of
coefficient_fits t l = add-fits binary32 _ _
