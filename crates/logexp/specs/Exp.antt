-- exp of an f32 as one fixed list of rounded steps on whole numbers. Definitions only.
use Rattle.std.specs.Prelude.{ℕ, ◌+◌, ◌-◌, ◌*◌, ◌/◌, ◌%◌, ◌^◌, true, false, cond, pos, ltb, eqb, Float}
use Rattle.std.specs.Float.{nan, inf, fin, binary32}
use Rattle.std.specs.Float.Ieee.{of_bits, to_bits, le, ne}
use Rattle.float.specs.Num.{f0, f1}

-- ---- numbers

-- 89: from here on exp is infinity
abbrev pub f89 : Float
f89 = fin false 89 (pos 0)

-- -104: down from here exp is +0
abbrev pub f_104 : Float
f_104 = fin true 13 (pos 3)

-- ln 2 in units of 2^-30, rounded down
abbrev pub ln2_in30 : ℕ
ln2_in30 = 744261117

-- 1 / ln 2 in units of 2^-26, rounded down
abbrev pub inverse_down : ℕ
inverse_down = 96817625

-- 1 / ln 2 in units of 2^-26, rounded up
abbrev pub inverse_up : ℕ
inverse_up = 96817626

-- one less than the exponent's bias of 127: the leading digit of a significand that is added to the exponent's field carries the one that is missing
abbrev pub bias_before_carry : ℕ
bias_before_carry = 126

-- ---- steps

-- the magnitude of the pattern m in units of 2^-30, rounded down
unfoldable pub fixed_of : ℕ → ℕ
fixed_of m =
    cond (ltb (m / 2 ^ 23) 96) 0
    (cond (ltb (m / 2 ^ 23) 120)
    ((0x80_0000 + m % 0x80_0000) / 2 ^ (120 - m / 2 ^ 23))
    ((0x80_0000 + m % 0x80_0000) * 2 ^ (m / 2 ^ 23 - 120)))

-- one step of the series, c + u * p in units of 2^-30, rounded down
abbrev pub step_of : ℕ → ℕ → ℕ → ℕ
step_of c u p = c + u * p / 2 ^ 30

-- e^u, both in units of 2^-30: nine terms of the series, the coefficients 1 / k! rounded down
unfoldable pub series_of : ℕ → ℕ
series_of u =
    step_of 1073741824 u (step_of 1073741824 u (step_of 536870912 u (step_of 178956970 u
    (step_of 44739242 u (step_of 8947848 u (step_of 1491308 u (step_of 213044 u 26630)))))))

-- how often ln 2 goes into a units of 2^-30, rounded down
abbrev pub up_count : ℕ → ℕ
up_count a = a * inverse_down / 2 ^ 56

-- one more than how often ln 2 goes into a, so that what is taken off is not below a
abbrev pub down_count : ℕ → ℕ
down_count a = a * inverse_up / 2 ^ 56 + 1

-- the value with the pattern t, or infinity where t is not below the infinity's
unfoldable pub capped : ℕ → Float
capped t = cond (ltb t 0x7f80_0000) (of_bits binary32 t) (inf false)

-- e^(a / 2^30): the whole number of ln 2 taken off, the series, and the exponent put back
unfoldable pub exp_up : ℕ → Float
unfolding capped series_of
exp_up a = capped ((up_count a + bias_before_carry) * 2 ^ 23 + series_of (a - up_count a * ln2_in30) / 2 ^ 7)

-- the pattern of p / 2^30 / 2^n, subnormal from n = 127 on
unfoldable pub below_one : ℕ → ℕ → ℕ
below_one n p = cond (ltb n 127) ((bias_before_carry - n) * 2 ^ 23 + p / 2 ^ 7) (p / 2 ^ (n - 119))

-- e^(-a / 2^30)
unfoldable pub exp_down : ℕ → Float
unfolding below_one series_of
exp_down a = cond (eqb a 0) f1 (of_bits binary32 (below_one (down_count a) (series_of (down_count a * ln2_in30 - a))))

-- NaN gives NaN, 89 and above infinity, -104 and below +0, and the rest goes by its sign
unfoldable pub exp_of : Float → Float
unfolding exp_up exp_down fixed_of
exp_of x =
    cond (ne x x) nan
    (cond (le f89 x) (inf false)
    (cond (le x f_104) f0
    (cond (ltb (to_bits binary32 x) 0x8000_0000)
    (exp_up (fixed_of (to_bits binary32 x)))
    (exp_down (fixed_of (to_bits binary32 x - 0x8000_0000))))))
