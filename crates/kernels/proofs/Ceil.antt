-- Counting up from 0 to the first whole number that is not below x rounds x up. Assumes nothing.
use Prim.Native.Nat.{ℕ, zero, suc, ◌+◌, ◌-◌, ◌*◌, ◌/◌, ◌^◌, ◌≤◌, ◌<◌, min}
use native.Mathlib.Nat.{eq-zero-or-pos, suc-mul, mul-one, mul_right_comm, mul-lt-mul_of_pos_right, mul-le-mul_right, le-div_iff_mul-le, div-lt_iff_lt-mul}
use native.Mathlib.Omega.{arith}
use mathlib.Core.Path.{◌≡◌, refl, sym, ◌∙◌}
use mathlib.Core.Bool.{Bool, true, false, true≢false, false≢true}
use mathlib.Core.Logic.{◌⊎◌, ⊎_elim, inl, inr}
use lib.IntN.{ℤ}
use lib.Dec.{ltb}
use lib.Ieee.{Float, nan, inf, fin, up, down, lt}
use lib.Ieee.Exact.{HasValue}
use lib.Ieee.Fits.{down_pos}
use borrow.Author.Tests.{ltb-true, ltb-false, lt-ltb, le-ltb}
use Rattle.float.proofs.Floats.{whole-value}
use Rattle.float.proofs.Order.{lt-nan}
use Rattle.kernels.specs.Kernel.{float, ceil_of}

-- ---- a count compared with a float

ltb-scale : (a b d : ℕ) → 0 < d → ltb (a * d) (b * d) ≡ ltb a b
ltb-scale a b d h = by_test (ltb a b) refl
  where
    by_test : (t : Bool) → ltb a b ≡ t → ltb (a * d) (b * d) ≡ t
    by_test true e = lt-ltb (a * d) (b * d) (mul-lt-mul_of_pos_right {m = a} {n = b} {k = d} (ltb-true a b e) h)
    by_test false e = le-ltb (a * d) (b * d) (mul-le-mul_right {m = b} {n = a} d (ltb-false a b e))

above : (x : Float) (k m : ℕ) (e : ℤ) → HasValue x false k 1 → lt x (fin false m e) ≡ ltb (k * down e) (m * up e)
unfolding lt
above nan k m e v = absurd v
above (inf s) k m e v = absurd v
above (fin true n d) k m e v = absurd (true≢false v.0)
above (fin false n d) k m e v =
    let own : n * up d ≡ k * down d = sym (mul-one (n * up d)) ∙ v.1 in
    rw (own, mul_right_comm k (down d) (down e)) (ltb-scale (k * down e) (m * up e) (down d) (down_pos d))

not-below : (x : Float) (k m : ℕ) (e : ℤ) → HasValue x false k 1 → lt x (fin true m e) ≡ false
unfolding lt
not-below nan k m e v = refl
not-below (inf s) k m e v = absurd v
not-below (fin true n d) k m e v = absurd (true≢false v.0)
not-below (fin false n d) k m e v = refl

below_top : (x : Float) (k : ℕ) → HasValue x false k 1 → (lt x (inf false) ≡ true) × (lt x (inf true) ≡ false)
unfolding lt
below_top nan k v = absurd v
below_top (inf s) k v = absurd v
below_top (fin s n d) k v = (refl, refl)

-- ---- the count

none_below : (x : Float) (n : ℕ) → lt (float 0) x ≡ false → ((k : ℕ) → k < n → lt (float k) x ≡ true) → n ≡ 0
none_below x n e all = ⊎_elim (λ z. z) (λ p. absurd (false≢true (sym e ∙ all 0 p))) (eq-zero-or-pos n)

rounded_up : (m d n : ℕ) → 0 < d → (n ≡ 0) ⊎ ((n - 1) * d < m) → n ≤ (m + (d - 1)) / d
rounded_up m d zero p h = omega arith
rounded_up m d (suc j) p h =
    (le-div_iff_mul-le {k = d} {x = suc j} {y = m + (d - 1)} p).1
    (⊎_elim (λ e. let z : ⊥ = omega arith in absurd z) (λ g. let j-is : suc j - 1 ≡ j = omega arith in let less = rw j-is at g in omega (arith, suc-mul j d, less)) h)

not_more : (m d n : ℕ) → 0 < d → m ≤ n * d → (m + (d - 1)) / d < suc n
not_more m d n p h = (div-lt_iff_lt-mul {k = d} {x = m + (d - 1)} {y = suc n} p).1 (omega (arith, suc-mul n d))

least : (m d n : ℕ) → 0 < d → n ≤ 16 → (n ≡ 0) ⊎ ((n - 1) * d < m) → (n ≡ 16) ⊎ (m ≤ n * d) → n ≡ min ((m + (d - 1)) / d) 16
least m d n p most from to =
    let low = rounded_up m d n p from in
    ⊎_elim (λ e. omega arith) (λ h. let high = not_more m d n p h in omega arith) to

small : (n : ℕ) → n ≤ 16 → n ≤ 2 ^ 24
small n h = omega arith

-- The first count, up to 16, that is not below x is x rounded up.
pub ceil_is : (x : Float) (n : ℕ) → n ≤ 16 → ((k : ℕ) → k < n → lt (float k) x ≡ true) → (n ≡ 16) ⊎ (lt (float n) x ≡ false) → n ≡ ceil_of x
unfolding ceil_of
ceil_is nan n most all end = none_below nan n (lt-nan (float 0)).0 all
ceil_is (inf true) n most all end = none_below (inf true) n (below_top (float 0) 0 (whole-value 0 (omega arith))).1 all
ceil_is (inf false) n most all end =
    ⊎_elim (λ e. e) (λ h. absurd (false≢true (sym h ∙ (below_top (float n) n (whole-value n (small n most))).0))) end
ceil_is (fin true m e) n most all end = none_below (fin true m e) n (not-below (float 0) 0 m e (whole-value 0 (omega arith))) all
ceil_is (fin false m e) n most all end =
    least (m * up e) (down e) n (down_pos e) most
    (⊎_elim inl
    (λ p. inr (ltb-true _ _ (sym (above (float (n - 1)) (n - 1) m e (whole-value (n - 1) (small (n - 1) (omega arith)))) ∙ all (n - 1) (omega arith))))
    (eq-zero-or-pos n))
    (⊎_elim inl (λ h. inr (ltb-false _ _ (sym (above (float n) n m e (whole-value n (small n most))) ∙ h))) end)

-- it is at most 16
pub ceil_most : (x : Float) → ceil_of x ≤ 16
unfolding ceil_of
ceil_most nan = omega arith
ceil_most (inf true) = omega arith
ceil_most (inf false) = omega arith
ceil_most (fin true m e) = omega arith
ceil_most (fin false m e) = omega arith
