-- The operations of f32 keep Near, and the comparisons do not see it. Assumes nothing.
use mathlib.Core.Path.{◌≡◌, refl, sym, ◌∙◌}
use Prim.Native.Nat.compare
use Prim.Native.Nat.{ℕ, zero, suc, ◌*◌, ◌<◌, compare}
use native.Mathlib.Nat.{mul-zero, sub-zero, mul-pos, zero-lt-suc, zero-div, zero-mod, zero-mul, zero-add, add-zero}
use native.Mathlib.Omega.{arith}
use mathlib.Core.Bool.{Bool, true, false, cond, not, ◌&&◌, beq, true≢false, false≢true}
use lib.IntN.{ℤ, pos}
use lib.Dec.{T, eqb-suc-zero}
use borrow.Author.Tests.{lt-ltb, le-ltb}
use lib.Ieee.Fits.{up_pos}
use lib.Ieee.Order.{round_mono}
use lib.Ieee.Positive as P
use lib.Ieee.{Float, of_int, nan, inf, fin, binary32, up, down, nearest, size, span, climb, odd, units, round, sum, add, sub, mul, div, neg, lt, is_nan, of_bits}
use Rattle.float.specs.Small.{finite, abs_of, min_of, max_of}
use Rattle.float.specs.Num.{◌⊕◌, ◌⊖◌, ◌⊗◌, ◌⊘◌, f0, f1e_10}
use Rattle.fit.specs.Near.{Near, same, zeros}

pub near_sym : {x y : Float} → Near x y → Near y x
near_sym same = same
near_sym zeros = zeros

pub near_trans : {x y z : Float} → Near x y → Near y z → Near x z
near_trans same q = q
near_trans zeros same = zeros
near_trans zeros zeros = zeros

near_zero : (u : ℕ) → nearest 0 (compare 0 u) ≡ 0
near_zero zero = refl
near_zero (suc u) = rw (compare.zero-suc u)

round-zero : (s : Bool) (c : ℕ) → round binary32 s 0 c ≡ fin s 0 (pos 0)
unfolding round units odd size span climb
round-zero s c = rw (zero-div c, zero-div (c * 1), zero-mod (c * 1), near_zero (c * 1))

-- ---- sums

module _ (s t : Bool) (c : ℕ) where
  sum-none : Near (sum binary32 s 0 t 0 c) (fin false 0 (pos 0))
  unfolding sum
  sum-none = none s t where
    none : (s t : Bool) → Near (sum binary32 s 0 t 0 c) (fin false 0 (pos 0))
    none true true = rw (round-zero true c) zeros
    none true false = rw (round-zero false c) zeros
    none false true = rw (round-zero false c) zeros
    none false false = rw (round-zero false c) zeros

  sum_left : (b : ℕ) → 0 < b → sum binary32 s 0 t b c ≡ round binary32 t b c
  unfolding sum
  sum_left b h = left s t where
    left : (s t : Bool) → sum binary32 s 0 t b c ≡ round binary32 t b c
    left true true = rw (zero-add b)
    left true false = rw (lt-ltb 0 b h, sub-zero b)
    left false true = rw (lt-ltb 0 b h, sub-zero b)
    left false false = rw (zero-add b)

  sum-right : (a : ℕ) → 0 < a → sum binary32 s a t 0 c ≡ round binary32 s a c
  unfolding sum
  sum-right a h = right s t where
    right : (s t : Bool) → sum binary32 s a t 0 c ≡ round binary32 s a c
    right true true = rw (add-zero a)
    right true false = rw (le-ltb a 0 (omega arith), lt-ltb 0 a h, sub-zero a)
    right false true = rw (le-ltb a 0 (omega arith), sub-zero a)
    right false false = rw (add-zero a)

numerator_above : (n : ℕ) (d : ℤ) (k : ℕ) → 0 < k → 0 < suc n * up d * k
numerator_above n d k h = mul-pos (mul-pos (zero-lt-suc n) (up_pos d)) h

add_left : (s t : Bool) (y : Float) → Near (fin s 0 (pos 0) ⊕ y) (fin t 0 (pos 0) ⊕ y)
unfolding add
add_left s t nan = same
add_left s t (inf u) = same
add_left s t (fin u zero d) = rw (zero-mul (down d), zero-mul (up d)) (near_trans (sum-none s u (1 * down d)) (near_sym (sum-none t u (1 * down d))))
add_left s t (fin u (suc n) d) =
    rw (zero-mul (down d), sum_left s u (1 * down d) (suc n * up d * 1) (numerator_above n d 1 (zero-lt-suc 0)), sum_left t u (1 * down d) (suc n * up d * 1) (numerator_above n d 1 (zero-lt-suc 0))) same

add_right : (s t : Bool) (x : Float) → Near (x ⊕ fin s 0 (pos 0)) (x ⊕ fin t 0 (pos 0))
unfolding add
add_right s t nan = same
add_right s t (inf u) = same
add_right s t (fin u zero d) = rw (zero-mul (down d), zero-mul (up d)) (near_trans (sum-none u s (down d * 1)) (near_sym (sum-none u t (down d * 1))))
add_right s t (fin u (suc n) d) =
    rw (zero-mul (down d), sum-right u s (down d * 1) (suc n * up d * 1) (numerator_above n d 1 (zero-lt-suc 0)), sum-right u t (down d * 1) (suc n * up d * 1) (numerator_above n d 1 (zero-lt-suc 0))) same

pub add~ : {x x' y y' : Float} → Near x x' → Near y y' → Near (x ⊕ y) (x' ⊕ y')
add~ same same = same
add~ same (zeros {s = s} {t = t}) = add_right s t _
add~ (zeros {s = s} {t = t}) same = add_left s t _
add~ (zeros {s = s} {t = t}) (zeros {s = u} {t = v}) = near_trans (add_left s t _) (add_right u v _)

pub neg~ : {x x' : Float} → Near x x' → Near (neg x) (neg x')
unfolding neg
neg~ same = same
neg~ zeros = zeros

pub sub~ : {x x' y y' : Float} → Near x x' → Near y y' → Near (x ⊖ y) (x' ⊖ y')
unfolding sub
sub~ p q = add~ p (neg~ q)

-- a zero of either sign adds nothing to a number that is no zero
add_none : {y y' : Float} (x : Float) → lt f0 x ≡ true → Near y y' → x ⊕ y ≡ x ⊕ y'
unfolding lt add of_bits
add_none x h same = refl
add_none x h (zeros {s = s} {t = t}) = at x h where
  at : (x : Float) → lt f0 x ≡ true → x ⊕ fin s 0 (pos 0) ≡ x ⊕ fin t 0 (pos 0)
  at nan h = refl
  at (inf u) h = refl
  at (fin true zero d) h = absurd (false≢true h)
  at (fin false zero d) h = absurd (false≢true (rw (zero-mul (down d), zero-mul (up d)) at h))
  at (fin u (suc n) d) h =
      rw (zero-mul (down d), sum-right u s (down d * 1) (suc n * up d * 1) (numerator_above n d 1 (zero-lt-suc 0)), sum-right u t (down d * 1) (suc n * up d * 1) (numerator_above n d 1 (zero-lt-suc 0)))

-- ---- products and quotients

mul_left : (s t : Bool) (y : Float) → Near (fin s 0 (pos 0) ⊗ y) (fin t 0 (pos 0) ⊗ y)
unfolding mul
mul_left s t nan = same
mul_left s t (inf u) = same
mul_left s t (fin u n d) = rw (zero-mul (n * up d), round-zero (not (beq s u)) (1 * down d), round-zero (not (beq t u)) (1 * down d)) zeros

mul_right : (s t : Bool) (x : Float) → Near (x ⊗ fin s 0 (pos 0)) (x ⊗ fin t 0 (pos 0))
unfolding mul
mul_right s t nan = same
mul_right s t (inf u) = same
mul_right s t (fin u n d) = rw (mul-zero (n * up d), round-zero (not (beq u s)) (down d * 1), round-zero (not (beq u t)) (down d * 1)) zeros

pub mul~ : {x x' y y' : Float} → Near x x' → Near y y' → Near (x ⊗ y) (x' ⊗ y')
mul~ same same = same
mul~ same (zeros {s = s} {t = t}) = mul_right s t _
mul~ (zeros {s = s} {t = t}) same = mul_left s t _
mul~ (zeros {s = s} {t = t}) (zeros {s = u} {t = v}) = near_trans (mul_left s t _) (mul_right u v _)

-- by one divisor, of any kind
pub div~ : {x x' d d' : Float} → Near x x' → d ≡ d' → Near (x ⊘ d) (x' ⊘ d')
unfolding div
div~ {d = d} p e = rw (← e) (over p d) where
  over : {x x' : Float} → Near x x' → (d : Float) → Near (x ⊘ d) (x' ⊘ d)
  over same d = same
  over zeros nan = same
  over zeros (inf u) = zeros
  over zeros (fin u zero d) = same
  over (zeros {s = s} {t = t}) (fin u (suc n) d) = rw (eqb-suc-zero n, zero-mul (down d), round-zero (not (beq s u)) (suc n * up d * 1), round-zero (not (beq t u)) (suc n * up d * 1)) zeros

-- ---- comparisons

lt-left : (s t : Bool) (y : Float) → lt (fin s 0 (pos 0)) y ≡ lt (fin t 0 (pos 0)) y
unfolding lt
lt-left s t y = first s y ∙ sym (first t y) where
  first : (s : Bool) (y : Float) → lt (fin s 0 (pos 0)) y ≡ lt (fin false 0 (pos 0)) y
  first false y = refl
  first true nan = refl
  first true (inf u) = refl
  first true (fin true n d) = rw (zero-mul (down d), le-ltb (n * up d * 1) 0 (omega arith))
  first true (fin false n d) = rw (zero-mul (down d), zero-add (n * up d * 1))

lt-right : (s t : Bool) (x : Float) → lt x (fin s 0 (pos 0)) ≡ lt x (fin t 0 (pos 0))
unfolding lt
lt-right s t x = last s x ∙ sym (last t x) where
  last : (s : Bool) (x : Float) → lt x (fin s 0 (pos 0)) ≡ lt x (fin false 0 (pos 0))
  last false x = refl
  last true nan = refl
  last true (inf u) = refl
  last true (fin true n d) = rw (zero-mul (down d), add-zero (n * up d * 1))
  last true (fin false n d) = rw (zero-mul (down d), le-ltb (n * up d * 1) 0 (omega arith))

pub lt~ : {x x' y y' : Float} → Near x x' → Near y y' → lt x y ≡ lt x' y'
lt~ same same = refl
lt~ same (zeros {s = s} {t = t}) = lt-right s t _
lt~ (zeros {s = s} {t = t}) same = lt-left s t _
lt~ (zeros {s = s} {t = t}) (zeros {s = u} {t = v}) = lt-left s t _ ∙ lt-right u v _

-- ---- what else is done with floats

-- what equal tests choose is related where both choices are
pub chosen~ : {A : Type 0} (R : A → A → Type 0) {t t' : Bool} {a a' b b' : A} → t ≡ t' → R a a' → R b b' → R (cond t a b) (cond t' a' b')
chosen~ {A = A} R {t = t} e p q = rw (← e) (pick t p q) where
  pick : (t : Bool) {a a' b b' : A} → R a a' → R b b' → R (cond t a b) (cond t a' b')
  pick true p q = p
  pick false p q = q

pub cond~ : {b b' : Bool} {x x' y y' : Float} → b ≡ b' → Near x x' → Near y y' → Near (cond b x y) (cond b' x' y')
cond~ e p q = chosen~ Near e p q

nan~ : {x x' : Float} → Near x x' → is_nan x ≡ is_nan x'
unfolding is_nan
nan~ same = refl
nan~ zeros = refl

pub fin~ : {x x' : Float} → Near x x' → finite x ≡ finite x'
unfolding finite
fin~ same = refl
fin~ zeros = refl

pub abs~ : {x x' : Float} → Near x x' → Near (abs_of x) (abs_of x')
unfolding abs_of
abs~ same = same
abs~ zeros = same

pub max~ : {x x' y y' : Float} → Near x x' → Near y y' → Near (max_of x y) (max_of x' y')
unfolding max_of
max~ p q = cond~ (nan~ p) q (cond~ (lt~ p q) q p)

pub min~ : {x x' y y' : Float} → Near x x' → Near y y' → Near (min_of x y) (min_of x' y')
unfolding min_of
min~ p q = cond~ (nan~ p) q (cond~ (lt~ q p) q p)

-- what is no zero is equal
pub above_equal : {x x' : Float} → Near x x' → lt f0 x ≡ true → x ≡ x'
unfolding lt of_bits
above_equal same h = refl
above_equal (zeros {s = true}) h = absurd (false≢true h)
above_equal (zeros {s = false}) h = absurd (false≢true h)

-- what is not below 1e-10 is no zero
pub not_tiny_equal : {x x' : Float} → Near x x' → lt x f1e_10 ≡ false → x ≡ x'
unfolding lt of_bits
not_tiny_equal same h = refl
not_tiny_equal (zeros {s = true}) h = absurd (true≢false h)
not_tiny_equal (zeros {s = false}) h = absurd (true≢false h)

-- and what is not below 1e-10 in size
pub not-small_equal : {x x' : Float} → Near x x' → lt (abs_of x) f1e_10 ≡ false → x ≡ x'
unfolding lt of_bits abs_of
not-small_equal same h = refl
not-small_equal zeros h = absurd (true≢false h)

-- ---- tests

pub and~ : {a a' b b' : Bool} → a ≡ a' → b ≡ b' → (a && b) ≡ (a' && b')
and~ p q = cc

pub not~ : {a a' : Bool} → a ≡ a' → not a ≡ not a'
not~ p = cc

pub choose~ : (t : Bool) {a a' b b' : Bool} → a ≡ a' → b ≡ b' → cond t a b ≡ cond t a' b'
choose~ t p q = cc

-- ---- sums with whole numbers

one-is : round binary32 false 1 1 ≡ fin false 1 (pos 0)
unfolding round
one-is = refl

lt_above : (x : Float) → T (P.above x) → lt f0 x ≡ true
unfolding lt of_bits
lt_above nan t = absurd t
lt_above (inf true) t = absurd t
lt_above (inf false) t = refl
lt_above (fin true m e) t = absurd t
lt_above (fin false zero e) t = absurd t
lt_above (fin false (suc m) e) t = lt-ltb (0 * down e) (suc m * up e * 1) (rw (zero-mul (down e)) (numerator_above m e 1 (zero-lt-suc 0)))

-- a whole number above 0 is above 0 once rounded
whole_above : (n : ℕ) → 0 < n → lt f0 (of_int binary32 (pos n)) ≡ true
unfolding of_int
whole_above n h =
    lt_above (round binary32 false n 1)
    (P.above_of_le (fin false 1 (pos 0)) (round binary32 false n 1) tt
    (rw one-is at (round_mono binary32 1 1 n 1 (zero-lt-suc 0) (zero-lt-suc 0) (omega arith))))

plus_zero : (s : Bool) → fin false 0 (pos 0) ⊕ fin s 0 (pos 0) ≡ fin false 0 (pos 0)
unfolding add sum
plus_zero true = round-zero false 1
plus_zero false = round-zero false 1

-- a sum with a whole number does not show a zero's sign
pub whole_add~ : (n : ℕ) (y y' : Float) → Near y y' → of_int binary32 (pos n) ⊕ y ≡ of_int binary32 (pos n) ⊕ y'
unfolding of_int
whole_add~ zero y y' same = refl
whole_add~ zero y y' (zeros {s = s} {t = t}) = rw (round-zero false 1, plus_zero s, plus_zero t)
whole_add~ (suc n) y y' h = add_none (of_int binary32 (pos (suc n))) (whole_above (suc n) (zero-lt-suc n)) h

-- ---- the congruences, for search
pub ruleset near = (same, add~, neg~, sub~, mul~)
