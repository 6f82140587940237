-- The root of m * 2 ^ k units, for a significand m below 2 ^ 24: their `scale`, their `radicand`, and the pattern that they give. Assumes nothing.
use mathlib.Core.Path.{◌≡◌, sym, ap, ◌∙◌}
use Prim.Native.Nat.{ℕ, ◌+◌, ◌-◌, ◌*◌, ◌/◌, ◌%◌, ◌^◌, ◌≤◌, ◌<◌}
use native.Mathlib.Nat.{le_trans, lt_of_lt_of_le, mul-le-mul, mul_assoc, mul-div_cancel, mod-eq_of_lt}
use native.Mathlib.Omega.{arith}
use lib.Dec.{lit≤}
use lib.Pow.{pow-add, pow_pos, pow_mono, shl_lt}
use lib.Count.{count_leading_zeros}
use lib.Ieee.{binary32, size, of_bits}
use Rattle.float.specs.Root.{near_root}
use Rattle.float.specs.Pattern.{lead_of, field_of, units_of}
use Rattle.float.specs.Sqrt.{scale, radicand, root_units, root_pattern}
use Rattle.float.proofs.Roots.{near-low, near-high}
use Rattle.float.proofs.Patterns.{lead_in, field_in, at_field}
use Rattle.float.proofs.Width.{widen}

-- the zeros in front of a 24-digit significand
abbrev pub zeros : ℕ → ℕ
zeros m = count_leading_zeros 32 m - 8

-- twice the root's exponent, or one more
abbrev pub twice : ℕ → ℕ → ℕ
twice m k = 126 + k - zeros m

-- the number under the root
abbrev pub under : ℕ → ℕ → ℕ
under m k = m * 2 ^ zeros m * 2 ^ (23 + twice m k % 2)

half_of_lem : (s z k : ℕ) → s + z ≡ 32 + k → 8 ≤ z → z < 32 → (s + 102) / 2 ≡ (126 + k - (z - 8)) / 2
half_of_lem s z k e l h = omega arith

exponents : (z k : ℕ) → z ≤ 23 → k + 149 ≡ z + (23 + (126 + k - z) % 2) + 2 * ((126 + k - z) / 2)
exponents z k h = omega arith

module _ (m : ℕ) (p : 0 < m) (h : m < 2 ^ 24) where
  pub eight : 8 ≤ count_leading_zeros 32 m
  eight = (widen m p h).least

  pub few : zeros m ≤ 23
  few = let w = (widen m p h).most in omega arith

  full : m * 2 ^ zeros m * 2 ^ 8 ≡ m * 2 ^ count_leading_zeros 32 m
  full = let e : zeros m + 8 ≡ count_leading_zeros 32 m = (let l = eight in omega arith) in mul_assoc m (2 ^ zeros m) (2 ^ 8) ∙ ap (λ (x : ℕ). m * x) (sym (pow-add 2 (zeros m) 8) ∙ ap (λ (x : ℕ). 2 ^ x) e)

  pub wide_low : 2 ^ 23 ≤ m * 2 ^ zeros m
  wide_low = let w = (widen m p h).low in let f = full in omega arith

  pub wide_high : m * 2 ^ zeros m < 2 ^ 24
  wide_high = let w = (widen m p h).high in let f = full in omega arith

module _ (m k : ℕ) (p : 0 < m) (h : m < 2 ^ 24) where
  pub scale-is : scale (m * 2 ^ k) ≡ twice m k / 2
  unfolding scale
  scale-is = let w = widen m p h in half_of_lem (size (m * 2 ^ k)) (count_leading_zeros 32 m) k (w.digits k) w.least w.most

  -- nothing is cut off
  pub under-is : m * 2 ^ k * 2 ^ 149 ≡ under m k * 2 ^ (2 * (twice m k / 2))
  under-is =
      let z : ℕ = zeros m in
      let s : ℕ = 23 + twice m k % 2 in
      let t : ℕ = 2 * (twice m k / 2) in
      mul_assoc m (2 ^ k) (2 ^ 149)
      ∙ ap (λ (x : ℕ). m * x) (sym (pow-add 2 k 149) ∙ ap (λ (x : ℕ). 2 ^ x) (exponents z k (few m p h)) ∙ pow-add 2 (z + s) t ∙ ap (λ (x : ℕ). x * 2 ^ t) (pow-add 2 z s))
      ∙ sym (mul_assoc m (2 ^ z * 2 ^ s) (2 ^ t))
      ∙ ap (λ (x : ℕ). x * 2 ^ t) (sym (mul_assoc m (2 ^ z) (2 ^ s)))

  pub radicand-is : radicand (m * 2 ^ k) ≡ under m k
  unfolding radicand
  radicand-is = rw (scale-is, under-is) (mul-div_cancel (under m k) (pow_pos (2 * (twice m k / 2))))

  pub under-lt : under m k < 2 ^ 48
  under-lt = lt_of_lt_of_le (shl_lt 24 (23 + twice m k % 2) (wide_high m p h)) (pow_mono {i = 24 + (23 + twice m k % 2)} {j = 48} (omega arith))

  pub under_ge : 2 ^ 46 ≤ under m k
  under_ge = le_trans (lit≤ {m = 2 ^ 46} {n = 2 ^ 23 * 2 ^ 23} tt) (mul-le-mul (wide_low m p h) (pow_mono {i = 23} {j = 23 + twice m k % 2} (omega arith)))

  under-le : under m k ≤ (2 ^ 24 - 1) * 2 ^ 24
  under-le = mul-le-mul {n₂ = 2 ^ 24 - 1} (let w = wide_high m p h in omega arith) (pow_mono {i = 23 + twice m k % 2} {j = 24} (omega arith))

  -- the root has 24 digits
  pub digits_low : 2 ^ 23 ≤ near_root (radicand (m * 2 ^ k))
  digits_low = rw radicand-is (near-low (under m k) under-lt under_ge)

  pub digits_high : near_root (radicand (m * 2 ^ k)) < 2 ^ 24
  digits_high = rw radicand-is (near-high (under m k) under-lt under-le)

  scale-lt : k < 254 → scale (m * 2 ^ k) < 190
  scale-lt u = rw scale-is (omega arith)

  -- the pattern of the root stands for the root
  pub scaled_reads : k < 254 → of_bits binary32 (root_pattern (m * 2 ^ k)) ≡ root_units (m * 2 ^ k)
  unfolding root_pattern root_units
  scaled_reads u = let s = scale-lt u in at_field (scale (m * 2 ^ k)) (near_root (radicand (m * 2 ^ k))) digits_low digits_high (omega arith)

  pub scaled-lt : k < 254 → root_pattern (m * 2 ^ k) < 2139095040
  unfolding root_pattern
  scaled-lt u =
      let s = scale-lt u in
      let q = digits_high in
      omega arith

  -- the number that the machine's shifts, cut to their widths, give
  pub machine : (w o : ℕ) → w ≡ (m * 2 ^ zeros m) % 2 ^ 32 → o ≡ twice m k % 2 → (w * 2 ^ (23 + o)) % 2 ^ 64 ≡ under m k
  machine w o e f =
      let fine : w ≡ m * 2 ^ zeros m = e ∙ mod-eq_of_lt (lt_of_lt_of_le (wide_high m p h) (lit≤ tt)) in
      rw (fine, f) (mod-eq_of_lt (lt_of_lt_of_le under-lt (lit≤ tt)))

  pub pattern_is : twice m k / 2 * 8388608 + near_root (under m k) ≡ root_pattern (m * 2 ^ k)
  unfolding root_pattern
  pattern_is = rw (scale-is, radicand-is)

-- ---- the same for the units of a pattern
below_254 : (x : ℕ) → x ≤ 254 → x - 1 < 254
below_254 x h = omega arith

pub pattern_reads : (b : ℕ) → 0 < b → b < 2139095040 → of_bits binary32 (root_pattern (units_of b)) ≡ root_units (units_of b)
pattern_reads b p h = scaled_reads (lead_of b) (field_of b - 1) (lead_in b p).0 (lead_in b p).1 (below_254 (field_of b) (field_in b h).1)

pub pattern_lt : (b : ℕ) → 0 < b → b < 2139095040 → root_pattern (units_of b) < 2139095040
pattern_lt b p h = scaled-lt (lead_of b) (field_of b - 1) (lead_in b p).0 (lead_in b p).1 (below_254 (field_of b) (field_in b h).1)
