-- Bounds on the steps of log2 and exp, over whole numbers. Assumes nothing.
use mathlib.Core.Path.{◌≡◌, sym, subst}
use mathlib.Core.Logic.{inl, inr}
use Prim.Native.Nat.{ℕ, zero, suc, ◌+◌, ◌-◌, ◌*◌, ◌/◌, ◌%◌, ◌^◌, ◌≤◌, ◌<◌}
use native.Mathlib.Nat.{le_trans, le_of_lt, lt_trans, lt_of_le_of_lt, lt_of_lt_of_le, lt_of_not-le, mul-le-mul, mul-le-mul_right, mul-lt-mul_of_pos_right, div-le_of_le-mul, div-le_self, eq-zero-or-pos, pow-succ'}
use native.Mathlib.Omega.{arith}
use native.Mathlib.Decide.{dec_le}
use mathlib.Core.Bool.{Bool, true, false, not, cond}
use lib.Dec.{T, ltb, ltb→lt, nltb→le, lit<}
use lib.Pow.{pow_mono, shr_lt}
use Rattle.logexp.specs.Log.{next, squared, digits_of}
use Rattle.logexp.specs.Exp.{bias_before_carry, fixed_of, step_of, series_of, below_one}

-- ---- log2: a square, its top digit, and the next number
pub sq_lt : (y : ℕ) → y < 2 ^ 32 → y * y < 2 ^ 64
sq_lt y h = lt_of_le_of_lt (mul-le-mul (pred-le h) (pred-le h)) (lit< tt)
  where
    pred-le : y < 2 ^ 32 → y ≤ 4294967295
    pred-le k = omega arith

sq_ge : (y : ℕ) → 2 ^ 31 ≤ y → 2 ^ 62 ≤ y * y
sq_ge y h = mul-le-mul h h

pub top_digit : (y : ℕ) → y < 2 ^ 32 → y * y / 2 ^ 63 < 2
top_digit y h = go (y * y) (sq_lt y h)
  where
    go : (s : ℕ) → s < 2 ^ 64 → s / 2 ^ 63 < 2
    go s k = omega arith

small : (s : ℕ) → 2 ^ 62 ≤ s → s / 2 ^ 63 ≡ 0 → (2 ^ 31 ≤ s / 2 ^ 31) × (s / 2 ^ 31 < 2 ^ 32)
small s lo e = (omega arith, omega arith)

large : (s : ℕ) → s < 2 ^ 64 → s / 2 ^ 63 ≡ 1 → (2 ^ 31 ≤ s / 2 ^ 32) × (s / 2 ^ 32 < 2 ^ 32)
large s hi e = (omega arith, omega arith)

one : (t : ℕ) → 0 < t → t < 2 → t ≡ 1
one t h k = omega arith

pub next_in : (y : ℕ) → 2 ^ 31 ≤ y → y < 2 ^ 32 → (2 ^ 31 ≤ next y) × (next y < 2 ^ 32)
next_in y lo hi =
    let s = y * y in
    elim (eq-zero-or-pos (s / 2 ^ 63)) [
      | inl e ↦ subst (λ (t : ℕ). (2 ^ 31 ≤ s / 2 ^ (31 + t)) × (s / 2 ^ (31 + t) < 2 ^ 32)) (sym e) (small s (sq_ge y lo) e)
      | inr p ↦
          let e : s / 2 ^ 63 ≡ 1 = one (s / 2 ^ 63) p (top_digit y hi) in
          subst (λ (t : ℕ). (2 ^ 31 ≤ s / 2 ^ (31 + t)) × (s / 2 ^ (31 + t) < 2 ^ 32)) (sym e) (large s (sq_lt y hi) e)
    ]

module _ (w : ℕ) (lo : 2 ^ 31 ≤ w) (hi : w < 2 ^ 32) where
  pub squared_in : (i : ℕ) → (2 ^ 31 ≤ squared i w) × (squared i w < 2 ^ 32)
  unfolding squared
  squared_in zero = (lo, hi)
  squared_in (suc i) = let ih = squared_in i in next_in (squared i w) ih.0 ih.1

  pub digits_lt : (i : ℕ) → digits_of i w < 2 ^ i
  unfolding digits_of
  digits_lt zero = lit< tt
  digits_lt (suc i) = grow (digits_of i w) (squared i w * squared i w / 2 ^ 63) (2 ^ i) (2 ^ suc i) (pow-succ' 2 i) (digits_lt i) (top_digit (squared i w) (squared_in i).1)
    where
      grow : (f t p q : ℕ) → q ≡ 2 * p → f < p → t < 2 → 2 * f + t < q
      grow f t p q e h k = omega arith

-- ---- exp: one step of the series
pub step-le : (u p : ℕ) → u < 2 ^ 30 → u * p / 2 ^ 30 ≤ p
step-le u p h = div-le_of_le-mul (2 ^ 30) (mul-le-mul_right p (le_of_lt h))

pub step-lt : (u p : ℕ) → u < 2 ^ 30 → p < 2 ^ 32 → u * p < 2 ^ 62
step-lt u p h k = lt_of_le_of_lt (mul-le-mul (le_of_lt h) (pred-le k)) (lit< tt)
  where
    pred-le : p < 2 ^ 32 → p ≤ 4294967295
    pred-le j = omega arith

-- the whole series
pub series_lt : (u : ℕ) → u < 2 ^ 30 → series_of u < 2 ^ 32
unfolding series_of
series_lt u h =
    let p7 = step_of 213044 u 26630 in
    let p6 = step_of 1491308 u p7 in
    let p5 = step_of 8947848 u p6 in
    let p4 = step_of 44739242 u p5 in
    let p3 = step_of 178956970 u p4 in
    let p2 = step_of 536870912 u p3 in
    let p1 = step_of 1073741824 u p2 in
    go (u * 26630 / 2 ^ 30) (u * p7 / 2 ^ 30) (u * p6 / 2 ^ 30) (u * p5 / 2 ^ 30) (u * p4 / 2 ^ 30) (u * p3 / 2 ^ 30) (u * p2 / 2 ^ 30) (u * p1 / 2 ^ 30)
    (step-le u 26630 h) (step-le u p7 h) (step-le u p6 h) (step-le u p5 h) (step-le u p4 h) (step-le u p3 h) (step-le u p2 h) (step-le u p1 h)
  where
    go : (a b c d e f g k : ℕ) → a ≤ 26630 → b ≤ 213044 + a → c ≤ 1491308 + b → d ≤ 8947848 + c → e ≤ 44739242 + d → f ≤ 178956970 + e → g ≤ 536870912 + f → k ≤ 1073741824 + g → 1073741824 + k < 2 ^ 32
    go a b c d e f g k i j l m n o p q = omega arith

-- the pattern of a value below one, subnormal from n = 127 on
pub cut_lt : (n p : ℕ) → 127 ≤ n → p < 2 ^ 32 → p / 2 ^ (n - 119) < 2 ^ 24
cut_lt n p k h = shr_lt 24 (n - 119) (lt_of_lt_of_le h (pow_mono {i = 32} {j = 24 + (n - 119)} (omega arith)))

pub below_lt : (n p : ℕ) → 1 ≤ n → n < 152 → p < 2 ^ 32 → below_one n p < 0x7f80_0000
unfolding below_one
below_lt n p i l h = go (ltb n 127) (ltb→lt n 127) (nltb→le n 127)
  where
    go : (b : Bool) → (T b → n < 127) → (T (not b) → 127 ≤ n) → cond b ((bias_before_carry - n) * 2 ^ 23 + p / 2 ^ 7) (p / 2 ^ (n - 119)) < 0x7f80_0000
    go true q r = omega arith
    go false q r = lt_trans (cut_lt n p (r tt) h) (lit< tt)

-- ---- exp's argument in units of 2 ^ -30
pub fixed_lt : (m : ℕ) → m < 0x42d0_0000 → fixed_of m < 104 * 2 ^ 30
unfolding fixed_of
fixed_lt m h = go (ltb (m / 2 ^ 23) 96) (ltb (m / 2 ^ 23) 120)
  where
    g : ℕ
    g = 8388608 + m % 8388608

    k : ℕ
    k = m / 2 ^ 23 - 120

    g_lt : g ≤ 2 ^ 24
    g_lt = omega arith

    right : g / 2 ^ (120 - m / 2 ^ 23) < 104 * 2 ^ 30
    right = lt_of_le_of_lt (le_trans (div-le_self g (2 ^ (120 - m / 2 ^ 23))) g_lt) (lit< tt)

    last : 12 < k → g < 104 * 2 ^ 17
    last q = omega arith

    thirteen : 12 < k → k ≡ 13
    thirteen q = omega arith

    left : g * 2 ^ k < 104 * 2 ^ 30
    left = elim (dec_le 13 k) [
      | no n ↦ let p = lt_of_not-le n in lt_of_le_of_lt (mul-le-mul g_lt (pow_mono {i = k} {j = 12} (omega arith))) (lit< tt)
      | yes q ↦ subst (λ (j : ℕ). g * 2 ^ j < 104 * 2 ^ 30) (sym (thirteen q)) (mul-lt-mul_of_pos_right (last q) (lit< tt))
    ]

    go : (a b : Bool) → cond a 0 (cond b (g / 2 ^ (120 - m / 2 ^ 23)) (g * 2 ^ k)) < 104 * 2 ^ 30
    go true b = lit< tt
    go false true = right
    go false false = left
