-- log2 of an f32 as one fixed list of rounded steps on whole numbers. Definitions only.
use Rattle.std.specs.Prelude.{ℕ, zero, suc, ◌+◌, ◌-◌, ◌*◌, ◌/◌, ◌^◌, true, false, cond, pos, leb, ltb, Float}
use Rattle.std.specs.Int.Count.{count_leading_zeros}
use Rattle.std.specs.Float.{nan, inf, binary32}
use Rattle.std.specs.Float.Ieee.{mul, neg, of_int, of_bits, to_bits, lt, eq, ne}
use Rattle.float.specs.Num.{f0}
use Rattle.float.specs.Pattern.{lead_of, field_of}

-- y / 2^31 squared, and halved where the square is 2 or more; rounded down
abbrev pub next : ℕ → ℕ
next y = y * y / 2 ^ (31 + y * y / 2 ^ 63)

-- w after i such steps
unfoldable pub squared : ℕ → ℕ → ℕ
squared zero w = w
squared (suc i) w = next (squared i w)

-- the first i binary digits of log2 (w / 2^31): one for each square, 1 where it is 2 or more
unfoldable pub digits_of : ℕ → ℕ → ℕ
digits_of zero w = 0
digits_of (suc i) w = 2 * digits_of i w + squared i w * squared i w / 2 ^ 63

-- n / 2^21, from 2^24 on without the five lowest digits of n
unfoldable pub scaled_of : ℕ → Float
scaled_of n =
    cond (ltb n 0x100_0000)
    (mul binary32 (of_int binary32 (pos n)) (of_bits binary32 0x3500_0000))
    (mul binary32 (of_int binary32 (pos (n / 2 ^ 5))) (of_bits binary32 0x3780_0000))

-- the significand of the pattern b at full width, from 2^31 up to 2^32
abbrev pub wide_of : ℕ → ℕ
wide_of b = lead_of b * 2 ^ count_leading_zeros 32 (lead_of b)

-- 149 more than the exponent of the pattern b
abbrev pub expo_of : ℕ → ℕ
expo_of b = field_of b + 30 - count_leading_zeros 32 (lead_of b)

-- the exponent e - 149 with the 21 digits f below the point
unfoldable pub joined : ℕ → ℕ → Float
unfolding scaled_of
joined e f = cond (leb 149 e) (scaled_of ((e - 149) * 2 ^ 21 + f)) (neg (scaled_of ((149 - e) * 2 ^ 21 - f)))

-- log2 of the positive finite value with the pattern b
unfoldable pub log2_pos : ℕ → Float
unfolding joined digits_of count_leading_zeros
log2_pos b = joined (expo_of b) (digits_of 21 (wide_of b))

-- NaN or below 0 gives NaN, either zero minus infinity, infinity itself
unfoldable pub log2_of : Float → Float
unfolding log2_pos
log2_of x = cond (ne x x) nan (cond (lt x f0) nan (cond (eq x f0) (inf true) (cond (eq x (inf false)) (inf false) (log2_pos (to_bits binary32 x)))))
