-- The nearest whole number from a bit pattern: the pattern's own definition gives the float's, and the code's shifts give the pattern's. Assumes nothing.
use Prim.Native.Nat.{ℕ, ◌+◌, ◌-◌, ◌*◌, ◌/◌, ◌%◌, ◌^◌, ◌≤◌, ◌<◌}
use native.Mathlib.Nat.{le_trans, lt_of_le_of_lt, lt_of_mul-lt-mul_right, eq-or-lt_of_le, mul-le-mul, mul-div-mul_right, mod-eq_of_lt}
use native.Mathlib.Omega.{arith}
use mathlib.Core.Bool.{Bool, true, false, not, false≢true}
use mathlib.Core.Logic.{◌⊎◌, inl, inr}
use mathlib.Core.Path.{◌≡◌, refl, sym, ap, ◌∙◌, subst}
use lib.Dec.{T, lit<, lit≤}
use lib.Pow.{pow-add, pow_pos, pow_mono}
use lib.Ieee.{Float, nan, inf, fin, binary32, up, down, is_nan, fits, of_bits, to_bits}
use lib.Ieee.Exact.{HasValue}
use lib.Ieee.Positive.{den_pos}
use borrow.Author.Tests.{lt-ltb, le-ltb}
use Rattle.float.specs.Pattern.{lead_of, field_of, units_of}
use Rattle.float.proofs.Patterns.{lead_is, lead_in, units_mono, plus-value, minus_value, Pattern, plus, minus, pattern}
use Rattle.whole.specs.Nearest.{largest, saturated, nearest_to, nearest_of, nearest_bits}
use Rattle.whole.proofs.NearestLaws.{to_same, to-only, to_high, saturated_keeps, saturated_over}

-- ---- a value with no sign, and one with a sign
of_plus : (x : Float) (a c : ℕ) → 0 < c → HasValue x false a c → nearest_of x ≡ saturated (nearest_to a c)
unfolding nearest_of
of_plus nan a c p v = absurd v
of_plus (inf s) a c p v = absurd v
of_plus (fin true m e) a c p v = absurd (false≢true (sym v.0))
of_plus (fin false m e) a c p v = ap saturated (to_same (m * up e) (down e) a c (den_pos (fin false m e)) p v.1)

of_minus : (x : Float) (a c : ℕ) → HasValue x true a c → nearest_of x ≡ 0
unfolding nearest_of
of_minus nan a c v = absurd v
of_minus (inf s) a c v = absurd v
of_minus (fin true m e) a c v = refl
of_minus (fin false m e) a c v = absurd (false≢true v.0)

-- ---- the infinities and NaN
plus-inf : nearest_bits 2139095040 ≡ nearest_of (of_bits binary32 2139095040)
unfolding nearest_bits nearest_of nearest_to saturated of_bits
plus-inf = refl

minus_inf : nearest_of (of_bits binary32 (2147483648 + 2139095040)) ≡ 0
unfolding nearest_of of_bits
minus_inf = refl

of_nan : (x : Float) → T (is_nan x) → nearest_bits (to_bits binary32 x) ≡ nearest_of x
unfolding is_nan nearest_bits nearest_of to_bits
of_nan nan t = refl
of_nan (inf s) t = absurd t
of_nan (fin s m e) t = absurd t

pub over_bits : (b : ℕ) → 0x7f80_0000 < b → nearest_bits b ≡ 0
unfolding nearest_bits
over_bits b h = rw (lt-ltb 0x7f80_0000 b h)

above : (m : ℕ) → nearest_bits (2147483648 + m) ≡ 0
above m = over_bits (2147483648 + m) (omega arith)

below : (m : ℕ) → m < 2139095040 → nearest_bits m ≡ saturated (nearest_to (units_of m) (2 ^ 149))
unfolding nearest_bits
below m h = rw (le-ltb 0x7f80_0000 m (omega arith))

-- A float's pattern gives the number nearest to it.
pub bits_nearest : (x : Float) → T (fits binary32 x) → nearest_bits (to_bits binary32 x) ≡ nearest_of x
bits_nearest x f = go (is_nan x) refl
  where
    known : Pattern x → nearest_bits (to_bits binary32 x) ≡ nearest_of x
    known (plus m hi e b) = elim (eq-or-lt_of_le hi) [
      | inl i ↦ ap nearest_bits (b ∙ i) ∙ plus-inf ∙ ap nearest_of (sym (e ∙ ap (of_bits binary32) i))
      | inr k ↦ ap nearest_bits b ∙ below m k ∙ sym (of_plus (of_bits binary32 m) (units_of m) (2 ^ 149) (pow_pos 149) (plus-value m k)) ∙ ap nearest_of (sym e)
    ]
    known (minus m hi e b) = elim (eq-or-lt_of_le hi) [
      | inl i ↦ ap nearest_bits b ∙ above m ∙ sym minus_inf ∙ ap nearest_of (sym (e ∙ ap (λ (j : ℕ). of_bits binary32 (2147483648 + j)) i))
      | inr k ↦ ap nearest_bits b ∙ above m ∙ sym (of_minus (of_bits binary32 (2147483648 + m)) (units_of m) (2 ^ 149) (minus_value m k)) ∙ ap nearest_of (sym e)
    ]

    go : (b : Bool) → is_nan x ≡ b → nearest_bits (to_bits binary32 x) ≡ nearest_of x
    go true e = of_nan x (subst T (sym e) tt)
    go false e = known (pattern x f (subst (λ (b : Bool). T (not b)) (sym e) tt))

-- ---- the code's steps

-- below 0.5
pub low_bits : (b : ℕ) → b < 0x3f00_0000 → nearest_bits b ≡ 0
low_bits b h =
    below b (omega arith)
    ∙ ap saturated (go (units_of b) (2 ^ 148) (lt_of_le_of_lt (units_mono b 0x3eff_ffff (omega arith)) (lit< tt)))
    ∙ saturated_keeps 0 (lit≤ tt)
  where
    go : (u p : ℕ) → u < p → nearest_to u (2 * p) ≡ 0
    go u p k = to-only u (2 * p) 0 (omega arith) (omega arith)

-- from 2^32 on
pub high_bits : (b : ℕ) → 0x4f80_0000 ≤ b → b ≤ 0x7f80_0000 → nearest_bits b ≡ largest
unfolding nearest_bits
high_bits b l h = rw (le-ltb 0x7f80_0000 b h) (saturated_over (nearest_to (units_of b) (2 ^ 149)) (go (nearest_to (units_of b) (2 ^ 149)) (2 ^ 149) (to_high (units_of b) (2 ^ 149) (pow_pos 149)) (le_trans (lit≤ tt) (units_mono 0x4f80_0000 b l))))
  where
    go : (n p : ℕ) → 2 * units_of b < (2 * n + 1) * p → 4294967296 * p ≤ units_of b → largest < n
    go n p i j = let less : 4294967296 * (2 * p) < (n + 1) * (2 * p) = omega arith in let r : 4294967296 < n + 1 = lt_of_mul-lt-mul_right (2 * p) less in omega arith

-- between them: the significand, moved up
abbrev pub shifted : ℕ → ℕ
shifted b = lead_of b * 2 ^ (field_of b - 126)

pub lead_under : (b : ℕ) → 0x3f00_0000 ≤ b → lead_of b ≤ 0xff_ffff
lead_under b l = let k = (lead_in b (omega arith)).1 in omega arith

pub field_between : (b : ℕ) → 0x3f00_0000 ≤ b → b < 0x4f80_0000 → (126 ≤ field_of b) × (field_of b ≤ 158)
field_between b l h = go (lead_of b) (field_of b) (lead_is b)
  where
    go : (g x : ℕ) → ((b < 8388608) × (g ≡ b) × (x ≡ 1)) ⊎ ((8388608 ≤ b) × (g ≡ 8388608 + b % 8388608) × (x ≡ b / 8388608)) → (126 ≤ x) × (x ≤ 158)
    go g x (inl p) = let z : ⊥ = omega arith in absurd z
    go g x (inr p) = (omega arith, omega arith)

shifted_le : (b : ℕ) → 0x3f00_0000 ≤ b → b < 0x4f80_0000 → shifted b ≤ 0xff_ffff * 2 ^ 32
shifted_le b l h =
    let up : field_of b - 126 ≤ 32 = omega (arith, (field_between b l h).1) in
    mul-le-mul (lead_under b l) (pow_mono up)

-- the shift loses nothing
pub machine : (b g x : ℕ) → 0x3f00_0000 ≤ b → b < 0x4f80_0000 → g ≡ lead_of b → x ≡ field_of b → (g * 2 ^ (x - 126)) % 2 ^ 64 ≡ shifted b
machine b g x l h e f = rw (e, f) (mod-eq_of_lt (lt_of_le_of_lt (shifted_le b l h) (lit< tt)))

pub cut_lt : (b : ℕ) → 0x3f00_0000 ≤ b → b < 0x4f80_0000 → (shifted b + 2 ^ 23) / 2 ^ 24 < 2 ^ 32
cut_lt b l h = go (shifted b) (shifted_le b l h)
  where
    go : (v : ℕ) → v ≤ 0xff_ffff * 2 ^ 32 → (v + 2 ^ 23) / 2 ^ 24 < 2 ^ 32
    go v k = omega arith

scaled : (g P H R : ℕ) → 0 < R → (g * P + H) / (2 * H) ≡ nearest_to (g * (P * R)) (H * (2 * R))
unfolding nearest_to
scaled g P H R p =
    let some : 0 < 2 * R = omega arith in
    let over : (g * P + H) * (2 * R) ≡ 2 * (g * (P * R)) + H * (2 * R) = omega arith in
    let under : 2 * H * (2 * R) ≡ 2 * (H * (2 * R)) = omega arith in
    sym (mul-div-mul_right (g * P + H) (2 * H) some) ∙ ap (λ (k : ℕ). k / (2 * H * (2 * R))) over ∙ ap (λ (k : ℕ). (2 * (g * (P * R)) + H * (2 * R)) / k) under

pub mid_bits : (b : ℕ) → 0x3f00_0000 ≤ b → b < 0x4f80_0000 → (shifted b + 2 ^ 23) / 2 ^ 24 ≡ nearest_bits b
mid_bits b l h =
    sym (saturated_keeps ((shifted b + 2 ^ 23) / 2 ^ 24) (let k = cut_lt b l h in omega arith))
    ∙ ap saturated (scaled (lead_of b) (2 ^ (field_of b - 126)) (2 ^ 23) (2 ^ 125) (pow_pos 125) ∙ ap (λ (u : ℕ). nearest_to u (2 ^ 149)) units)
    ∙ sym (below b (omega arith))
  where
    sum : field_of b - 126 + 125 ≡ field_of b - 1
    sum = omega (arith, (field_between b l h).0)

    units : lead_of b * (2 ^ (field_of b - 126) * 2 ^ 125) ≡ units_of b
    units = ap (λ (k : ℕ). lead_of b * k) (sym (pow-add 2 (field_of b - 126) 125) ∙ ap (λ (j : ℕ). 2 ^ j) sum)
