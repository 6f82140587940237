-- The constants that the code writes, and comparisons of a value with itself, with the infinity and with zero. Assumes nothing.
use mathlib.Core.Path.{◌≡◌, refl, sym, ◌∙◌}
use Prim.Native.Nat.{ℕ, zero, suc, ◌+◌, ◌*◌, ◌^◌, ◌≤◌, ◌<◌}
use native.Mathlib.Nat.{mul-pos, zero-lt-suc, zero-mul, mul-one, one-mul, pow-succ'}
use native.Mathlib.Omega.{arith}
use mathlib.Core.Bool.{Bool, true, false, not, true≢false, false≢true}
use lib.IntN.{ℤ, pos, negsuc}
use lib.Dec.{T, eqb, eqb_refl, eqb→eq, lt→ltb}
use lib.Count.{count_trailing_zeros}
use lib.Pow.{pow_pos}
use lib.Ieee.{Float, nan, inf, fin, binary32, up, down, lt, eq, ne, is_nan, fits, of_int, of_bits, of_fields, odd, div, round, size, span, climb, units}
use lib.Ieee.Exact.{HasValue}
use lib.Ieee.Back.{round_whole}
use lib.Ieee.Fits.{up_pos}
use lib.Ieee.Positive.{positive}
use lib.Ieee.Bits.{is_true}
use borrow.Author.Tests.{lt-ltb, le-ltb, ne_eqb}
use Rattle.float.specs.Num.{f0, f1}

-- ---- constants
pub zero_is : f0 ≡ fin false 0 (pos 0)
unfolding of_bits odd
zero_is = refl

pub zero_rounds : f0 ≡ round binary32 false 0 1
unfolding of_bits of_fields odd count_trailing_zeros round size span climb units
zero_rounds = refl

pub one_rounds : f1 ≡ round binary32 false 1 1
unfolding of_bits of_fields odd count_trailing_zeros round size span climb units
one_rounds = refl

pub inf-is : div binary32 (of_bits binary32 0x3f800000) (of_bits binary32 0) ≡ inf false
unfolding div of_bits odd
inf-is = refl

pub nan_is : div binary32 (of_bits binary32 0) (of_bits binary32 0) ≡ nan
unfolding div of_bits odd
nan_is = refl

-- ---- a whole number of 24 digits, made a float, is exact
pub whole-value : (n : ℕ) → n ≤ 2 ^ 24 → HasValue (of_int binary32 (pos n)) false n 1
unfolding of_int
whole-value n h = round_whole binary32 false n h

-- ---- a test that said no
pub refuted : (b : Bool) → b ≡ false → T b → ⊥
refuted true e t = true≢false e
refuted false e t = t

-- ---- compared with itself
pub ne_self : (x : Float) → ne x x ≡ is_nan x
unfolding ne is_nan
ne_self nan = refl
ne_self (inf true) = refl
ne_self (inf false) = refl
ne_self (fin true m e) = rw (is_true (eqb (m * up e * down e) (m * up e * down e)) (eqb_refl (m * up e * down e)))
ne_self (fin false m e) = rw (is_true (eqb (m * up e * down e) (m * up e * down e)) (eqb_refl (m * up e * down e)))

pub not-nan : (x : Float) → ne x x ≡ false → T (not (is_nan x))
not-nan x h = rw (sym (ne_self x) ∙ h) tt

-- ---- compared with the infinity
pub is-inf : (x : Float) → eq x (inf false) ≡ true → x ≡ inf false
unfolding eq
is-inf nan e = absurd (false≢true e)
is-inf (inf true) e = absurd (false≢true e)
is-inf (inf false) e = refl
is-inf (fin s m k) e = absurd (false≢true e)

-- ---- compared with zero
num_pos : (m : ℕ) (e : ℤ) → 0 < suc m * up e * 1
num_pos m e = mul-pos (mul-pos (zero-lt-suc m) (up_pos e)) (zero-lt-suc 0)

lt-sum : (a b : ℕ) → 0 < a → 0 < a + b
lt-sum a b h = omega arith

pos-ne : (a : ℕ) → 0 < a → a ≡ 0 → ⊥
pos-ne a h e = omega arith

pub lt_zero : (s : Bool) (m : ℕ) (e : ℤ) → lt (fin s (suc m) e) f0 ≡ s
unfolding lt of_bits
lt_zero true m e = lt-ltb 0 (suc m * up e * 1 + 0 * 1 * down e) (lt-sum (suc m * up e * 1) (0 * 1 * down e) (num_pos m e))
lt_zero false m e = rw (zero-mul (down e)) (le-ltb (suc m * up e * 1) 0 (omega arith))

pub eq-zero : (s : Bool) (m : ℕ) (e : ℤ) → eq (fin s (suc m) e) f0 ≡ false
unfolding eq of_bits
eq-zero s m e = rw (zero-mul (down e), ne_eqb (suc m * up e * 1) 0 (pos-ne (suc m * up e * 1) (num_pos m e)))

pub zero_lt_zero : (s : Bool) (e : ℤ) → lt (fin s 0 e) f0 ≡ false
unfolding lt of_bits
zero_lt_zero true e = rw (zero-mul (up e), zero-mul (down e))
zero_lt_zero false e = rw (zero-mul (up e), zero-mul (down e))

pub zero_eq_zero : (s : Bool) (e : ℤ) → eq (fin s 0 e) f0 ≡ true
unfolding eq of_bits
zero_eq_zero true e = rw (zero-mul (up e), zero-mul (down e))
zero_eq_zero false e = rw (zero-mul (up e), zero-mul (down e))

-- ---- a zero that fits has the exponent 0
two_up : (p : ℕ) → 0 < p → 2 * p ≡ 1 → ⊥
two_up p h e = omega arith

flat : (e : ℤ) → up e * down e ≡ 1 → e ≡ pos 0
flat (pos zero) h = refl
flat (pos (suc k)) h = absurd (two_up (2 ^ k) (pow_pos k) (sym (pow-succ' 2 k) ∙ sym (mul-one (2 ^ suc k)) ∙ h))
flat (negsuc k) h = absurd (two_up (2 ^ k) (pow_pos k) (sym (pow-succ' 2 k) ∙ sym (one-mul (2 ^ suc k)) ∙ h))

pub zero_exp : (s : Bool) (e : ℤ) → T (fits binary32 (fin s zero e)) → e ≡ pos 0
unfolding fits
zero_exp s e t = flat e (eqb→eq (up e * down e) 1 t)

-- what is no NaN, not below 0, not 0 and not infinite is positive and finite
pub is_positive : (x : Float) → ne x x ≡ false → lt x f0 ≡ false → eq x f0 ≡ false → eq x (inf false) ≡ false → T (positive x)
unfolding lt eq is_nan of_bits
is_positive nan n l z i = absurd (true≢false (sym (ne_self nan) ∙ n))
is_positive (inf true) n l z i = absurd (true≢false l)
is_positive (inf false) n l z i = absurd (true≢false i)
is_positive (fin s zero e) n l z i = absurd (true≢false (sym (zero_eq_zero s e) ∙ z))
is_positive (fin true (suc m) e) n l z i = absurd (true≢false (sym (lt_zero true m e) ∙ l))
is_positive (fin false (suc m) e) n l z i = lt→ltb 0 (suc m) (zero-lt-suc m)
