-- What is claimed of log2: NaN, all below 0, both zeros, infinity; from 2^e up to 2^(e+1) the answer lies from e to e + 1 (`log2_between`); exact on powers of two (`log2_exact`). Assumes nothing.
use mathlib.Core.Path.{◌≡◌, refl, sym, ap, ◌∙◌, subst}
use Prim.Native.Nat.{ℕ, zero, suc, ◌+◌, ◌-◌, ◌*◌, ◌/◌, ◌^◌, ◌≤◌, ◌<◌}
use native.Mathlib.Nat.{le_trans, le_of_eq, lt_of_lt_of_le, lt_of_le_of_lt, lt_of_not-le, not-le_of_lt, le_antisymm, le_of_suc-le-suc, mul-one, mul_right_comm, mul-le-mul_right, mul-lt-mul_of_pos_right, le_of_mul-le-mul_right, lt_of_mul-lt-mul_right, eq_of_mul-eq-mul_right}
use native.Mathlib.Numerals.{add-one}
use native.Mathlib.Omega.{arith}
use mathlib.Core.Bool.{Bool, true, false, not, cond}
use lib.IntN.{pos}
use lib.Dec.{T, ltb, leb, leb→le, nleb→lt, lit<}
use lib.Pow.{pow-add, pow_pos, pow_mono, pow-lt}
use lib.Count.{count_leading_zeros}
use lib.Ieee.{Float, nan, inf, fin, binary32, up, down, neg, of_bits, to_bits, fits, is_nan, lt, eq, ne}
use lib.Ieee.Bits.{of_bits-to_bits}
use lib.Ieee.Exact.{HasValue}
use lib.Ieee.Positive.{positive, num, den, den_pos, value→cross}
use Rattle.float.specs.Num.{f0}
use Rattle.float.specs.Pattern.{lead_of, field_of, units_of}
use Rattle.logexp.specs.Log.{wide_of, expo_of, digits_of, squared, scaled_of, joined, log2_pos, log2_of}
use Rattle.logexp.specs.Claims.{Octave, Between, Exactly}
use Rattle.logexp.specs.Claims as claims
use Rattle.float.proofs.Floats.{ne_self, lt_zero, eq-zero}
use Rattle.float.proofs.Patterns.{plus-value, lead_in, field_in, positive_bits}
use Rattle.float.proofs.Width.{widen}
use Rattle.logexp.proofs.Steps.{digits_lt}
use Rattle.logexp.proofs.LogValue.{kept, scaled_value, neg_value, joined_between}

-- ---- the cases that need no steps
pub log2_nan : log2_of nan ≡ nan
unfolding log2_of ne
log2_nan = refl

pub log2_negative : (x : Float) → T (lt x f0) → log2_of x ≡ nan
unfolding log2_of
log2_negative x t = go (ne x x) (lt x f0) t
  where
    go : (a b : Bool) → T b → cond a nan (cond b nan (cond (eq x f0) (inf true) (cond (eq x (inf false)) (inf false) (log2_pos (to_bits binary32 x))))) ≡ nan
    go true b t = refl
    go false true t = refl
    go false false t = absurd t

pub log2_zero : (s : Bool) → log2_of (fin s 0 (pos 0)) ≡ inf true
unfolding log2_of ne lt eq of_bits
log2_zero true = refl
log2_zero false = refl

pub log2_infinity : log2_of (inf false) ≡ inf false
unfolding log2_of ne lt eq of_bits
log2_infinity = refl

-- ---- a positive x goes to the steps
pub to_steps : (x : Float) → T (positive x) → (ne x x ≡ false) × (lt x f0 ≡ false) × (eq x f0 ≡ false) × (eq x (inf false) ≡ false)
unfolding eq is_nan of_bits
to_steps nan p = absurd p
to_steps (inf s) p = absurd p
to_steps (fin true m e) p = absurd p
to_steps (fin false zero e) p = absurd p
to_steps (fin false (suc m) e) p = (ne_self (fin false (suc m) e), lt_zero false m e, eq-zero false m e, refl)

pub steps : (x : Float) → T (positive x) → log2_of x ≡ log2_pos (to_bits binary32 x)
unfolding log2_of
steps x p = let t = to_steps x p in rw (t.0, t.1, t.2, t.3)

pub own_units : (x : Float) → T (fits binary32 x) → T (positive x) → num x * 2 ^ 149 ≡ units_of (to_bits binary32 x) * den x
own_units x h p =
    let b = to_bits binary32 x in
    value→cross x (units_of b) (2 ^ 149) (subst (λ (y : Float). HasValue y false (units_of b) (2 ^ 149)) (of_bits-to_bits binary32 x h) (plus-value b (positive_bits x h p).1))

-- ---- the exponent is the one that the steps find
exponents : (x z : ℕ) → 1 ≤ x → z < 32 → (x + 30 - z + z ≡ 31 + (x - 1)) × (x + 30 - z + 1 + z ≡ 32 + (x - 1))
exponents x z p q = (omega arith, omega arith)

-- the value with z zeros after it is the wide significand with x - 1 zeros after it
shifted : (b : ℕ) → units_of b * 2 ^ count_leading_zeros 32 (lead_of b) ≡ wide_of b * 2 ^ (field_of b - 1)
shifted b = mul_right_comm (lead_of b) (2 ^ (field_of b - 1)) (2 ^ count_leading_zeros 32 (lead_of b))

pub units_octave : (b : ℕ) → 0 < b → b < 2139095040 → (2 ^ expo_of b ≤ units_of b) × (units_of b < 2 ^ (expo_of b + 1))
units_octave b p q =
    let z = count_leading_zeros 32 (lead_of b) in
    let x = field_of b in
    let f = widen (lead_of b) (lead_in b p).0 (lead_in b p).1 in
    let e = exponents x z (field_in b q).0 f.most in (
      le_of_mul-le-mul_right
          (le_trans (le_of_eq (sym (pow-add 2 (expo_of b) z) ∙ ap (λ (k : ℕ). 2 ^ k) e.0 ∙ pow-add 2 31 (x - 1))) (le_trans (mul-le-mul_right (2 ^ (x - 1)) f.low) (le_of_eq (sym (shifted b)))))
          (pow_pos z),
      lt_of_mul-lt-mul_right (2 ^ z)
          (lt_of_le_of_lt (le_of_eq (shifted b)) (lt_of_lt_of_le (mul-lt-mul_of_pos_right f.high (pow_pos (x - 1))) (le_of_eq (sym (sym (pow-add 2 (expo_of b + 1) z) ∙ ap (λ (k : ℕ). 2 ^ k) e.1 ∙ pow-add 2 32 (x - 1)))))),
    )

below_power : (a c v : ℕ) → 2 ^ a ≤ v → v < 2 ^ (c + 1) → a ≤ c
below_power a c v h k = le_of_suc-le-suc (subst (λ (n : ℕ). a < n) (add-one c) (lt_of_not-le (λ (g : c + 1 ≤ a). not-le_of_lt k (le_trans (pow_mono g) h))))

pub same-octave : (E x : ℕ) (v : ℕ) → 2 ^ E ≤ v → v < 2 ^ (E + 1) → 2 ^ x ≤ v → v < 2 ^ (x + 1) → E ≡ x
same-octave E x v a b c d = le_antisymm (below_power E x v a d) (below_power x E v c b)

pub octave-is : (x : Float) (E : ℕ) → T (fits binary32 x) → Octave E x → E ≡ expo_of (to_bits binary32 x)
octave-is x E h o =
    let b = to_bits binary32 x in
    let i = positive_bits x h o.plus in
    let v = own_units x h o.plus in
    let w = units_octave b i.0 i.1 in
    same-octave E (expo_of b) (units_of b)
    (le_of_mul-le-mul_right (le_trans o.least (le_of_eq v)) (den_pos x))
    (lt_of_mul-lt-mul_right (den x) (lt_of_le_of_lt (le_of_eq (sym v)) o.under))
    w.0 w.1

pub expo_le : (b : ℕ) → 0 < b → b < 2139095040 → expo_of b ≤ 276
expo_le b p q =
    let f = widen (lead_of b) (lead_in b p).0 (lead_in b p).1 in
    let r = field_in b q in
    go (field_of b) (count_leading_zeros 32 (lead_of b)) r.1 f.least
  where
    go : (x z : ℕ) → x ≤ 254 → 8 ≤ z → x + 30 - z ≤ 276
    go x z i j = omega arith

-- ---- from 2^e up to 2^(e+1) the answer lies from e to e + 1
pub log2_between : (x : Float) (E : ℕ) → T (fits binary32 x) → Octave E x → Between E (log2_of x)
unfolding log2_pos
log2_between x E h o =
    let b = to_bits binary32 x in
    let i = positive_bits x h o.plus in
    let f = widen (lead_of b) (lead_in b i.0).0 (lead_in b i.0).1 in
    subst (λ (r : Float). Between E r) (sym (steps x o.plus))
    (subst (λ (k : ℕ). Between k (log2_pos b)) (sym (octave-is x E h o)) (joined_between (expo_of b) (digits_of 21 (wide_of b)) (expo_le b i.0 i.1) (digits_lt (wide_of b) f.low f.high 21)))

-- ---- exact on powers of two, subnormal ones too
digits-zero : digits_of 21 (2 ^ 31) ≡ 0
unfolding digits_of squared
digits-zero = refl

whole-value : (e : ℕ) → e ≤ 276 → Exactly e (joined e 0)
unfolding joined
whole-value e h = go (leb 149 e) (leb→le 149 e) (nleb→lt 149 e)
  where
    down_to : (x : Float) (s : Bool) (n k : ℕ) → n ≡ k * 2 ^ 21 → HasValue x s n (2 ^ 21) → HasValue x s k 1
    down_to nan s n k e v = v
    down_to (inf t) s n k e v = v
    down_to (fin t m d) s n k e v = (v.0, cut (m * up d) (down d) v.1)
      where
        cut : (a c : ℕ) → a * 2 ^ 21 ≡ n * c → a * 1 ≡ k * c
        cut a c p = eq_of_mul-eq-mul_right (2 ^ 21) (lit< tt) (a * 1) (k * c) (ap (λ (z : ℕ). z * 2 ^ 21) (mul-one a) ∙ p ∙ ap (λ (z : ℕ). z * c) e ∙ mul_right_comm k (2 ^ 21) c)

    kept_whole : (k n : ℕ) → n ≡ k * 2 ^ 21 → kept n ≡ k * 2 ^ 21
    kept_whole k n e = pick (ltb n 0x100_0000)
      where
        pick : (b : Bool) → cond b n (n / 32 * 32) ≡ k * 2 ^ 21
        pick true = e
        pick false = omega arith

    go : (b : Bool) → (T b → 149 ≤ e) → (T (not b) → e < 149) → Exactly e (cond b (scaled_of ((e - 149) * 2 ^ 21 + 0)) (neg (scaled_of ((149 - e) * 2 ^ 21 - 0))))
    go true p q =
        let g = p tt in
        let n = (e - 149) * 2 ^ 21 + 0 in
        claims.Exactly.up (e - 149) (down_to (scaled_of n) false (kept n) (e - 149) (kept_whole (e - 149) n (omega arith)) (scaled_value n (omega arith))) (omega arith)
    go false p q =
        let g = q tt in
        let n = (149 - e) * 2 ^ 21 - 0 in
        claims.Exactly.down (149 - e) (neg_value (scaled_of n) (149 - e) 1 (down_to (scaled_of n) false (kept n) (149 - e) (kept_whole (149 - e) n (omega arith)) (scaled_value n (omega arith)))) (omega arith)

pub log2_exact : (x : Float) (E : ℕ) → T (fits binary32 x) → T (positive x) → num x * 2 ^ 149 ≡ 2 ^ E * den x → Exactly E (log2_of x)
unfolding log2_pos
log2_exact x E h p e =
    let b = to_bits binary32 x in
    let i = positive_bits x h p in
    let z = count_leading_zeros 32 (lead_of b) in
    let f = widen (lead_of b) (lead_in b i.0).0 (lead_in b i.0).1 in
    let v : units_of b ≡ 2 ^ E = eq_of_mul-eq-mul_right (den x) (den_pos x) (units_of b) (2 ^ E) (sym (own_units x h p) ∙ e) in
    let o = units_octave b i.0 i.1 in
    let k : E ≡ expo_of b = same-octave E (expo_of b) (units_of b) (le_of_eq (sym v)) (lt_of_le_of_lt (le_of_eq v) (pow-lt (more E))) o.0 o.1 in
    let w : wide_of b ≡ 2 ^ 31 =
    eq_of_mul-eq-mul_right (2 ^ (field_of b - 1)) (pow_pos (field_of b - 1)) (wide_of b) (2 ^ 31)
    (mul_right_comm (lead_of b) (2 ^ z) (2 ^ (field_of b - 1)) ∙ ap (λ (n : ℕ). n * 2 ^ z) v ∙ sym (pow-add 2 E z) ∙ ap (λ (n : ℕ). 2 ^ n) (sum E (field_of b) z (field_in b i.1).0 f.most k) ∙ pow-add 2 31 (field_of b - 1)) in
    subst (λ (r : Float). Exactly E r) (sym (steps x p))
    (subst (λ (n : ℕ). Exactly n (log2_pos b)) (sym k)
    (subst (λ (d : ℕ). Exactly (expo_of b) (joined (expo_of b) d)) (sym (ap (digits_of 21) w ∙ digits-zero)) (whole-value (expo_of b) (expo_le b i.0 i.1))))
  where
    more : (n : ℕ) → n < n + 1
    more n = omega arith

    sum : (E x z : ℕ) → 1 ≤ x → z < 32 → E ≡ x + 30 - z → E + z ≡ 31 + (x - 1)
    sum E x z p q e = omega arith
