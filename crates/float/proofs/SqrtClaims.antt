-- What is claimed of sqrt: NaN, both zeros, infinity and all below 0; at a positive finite value, normal or subnormal, it is the IEEE 754 root (`root_is`), and no other value is (`root-only`). Assumes nothing.
use mathlib.Core.Path.{◌≡◌, refl, sym, ap, ◌∙◌, subst}
use Prim.Native.Nat.{ℕ, zero, suc, ◌+◌, ◌-◌, ◌*◌, ◌^◌, ◌≤◌, ◌<◌}
use native.Mathlib.Nat.{le_trans, le_of_eq, le_antisymm, lt_of_lt_of_le, lt_of_le_of_lt, lt_of_not-le, not-le_of_lt, lt_trans, le_of_suc-le-suc, mul_assoc, mul-pos, mul-le-mul, mul-le-mul_right, mul-lt-mul_of_pos_right}
use native.Mathlib.Omega.{arith}
use mathlib.Core.Bool.{true, false, true≢false}
use lib.IntN.{ℤ}
use lib.Dec.{T}
use lib.Pow.{pow_pos, pow-add, pow_mono}
use lib.Ieee.{Float, nan, inf, fin, binary32, fits, of_bits, to_bits, lt, eq}
use lib.Ieee.Bits.{of_bits-fits, of_bits-to_bits}
use lib.Ieee.Exact.{HasValue, odd_sign}
use lib.Ieee.Positive.{positive, positive_of_value}
use Rattle.float.specs.Root.{near_root}
use Rattle.float.specs.Pattern.{lead_of, field_of, units_of}
use Rattle.float.specs.Sqrt.{in_units, scale, radicand, root_units, root_pattern, sqrt_of}
use Rattle.float.specs.Square.{IsRoot}
use Rattle.float.specs.Num.{f0}
use Rattle.float.proofs.Floats.{lt_zero, eq-zero, zero_lt_zero}
use Rattle.float.proofs.Roots.{Nearest, near_nearest}
use Rattle.float.proofs.Scaled.{scale-is, radicand-is, under, under-is, under-lt, under_ge, digits_low, digits_high, pattern_reads}
use Rattle.float.proofs.Patterns.{plus-value, positive_bits, lead_in, bits-lt, bits_pos, units_of_lem, units_are}

-- ---- the cases that need no steps
pub sqrt-nan : sqrt_of nan ≡ nan
unfolding sqrt_of
sqrt-nan = refl

pub sqrt_zero : (x : Float) → T (eq x f0) → sqrt_of x ≡ x
unfolding sqrt_of eq of_bits
sqrt_zero nan t = absurd t
sqrt_zero (inf s) t = absurd t
sqrt_zero (fin s zero e) t = refl
sqrt_zero (fin s (suc m) e) t = absurd (subst T (eq-zero s m e) t)

pub sqrt_infinity : sqrt_of (inf false) ≡ inf false
unfolding sqrt_of
sqrt_infinity = refl

pub sqrt_negative : (x : Float) → T (lt x f0) → sqrt_of x ≡ nan
unfolding sqrt_of lt of_bits
sqrt_negative nan t = absurd t
sqrt_negative (inf true) t = refl
sqrt_negative (inf false) t = absurd t
sqrt_negative (fin s zero e) t = absurd (subst T (zero_lt_zero s e) t)
sqrt_negative (fin true (suc m) e) t = refl
sqrt_negative (fin false (suc m) e) t = absurd (subst T (lt_zero false m e) t)

-- ---- a positive value goes to the steps
pub sqrt_steps : (x : Float) → T (fits binary32 x) → T (positive x) → of_bits binary32 (root_pattern (units_of (to_bits binary32 x))) ≡ sqrt_of x
unfolding sqrt_of
sqrt_steps nan f p = absurd p
sqrt_steps (inf s) f p = absurd p
sqrt_steps (fin true m e) f p = absurd p
sqrt_steps (fin false zero e) f p = absurd p
sqrt_steps (fin false (suc m) e) f p = pattern_reads (to_bits binary32 (fin false (suc m) e)) (bits_pos m e f) (bits-lt m e f) ∙ ap root_units (sym (units_are m e f))

-- ---- the definition has the property
module _ (m j : ℕ) (some : 0 < m) (small : m < 2 ^ 24) where
  scaled : (r : Float) → T (fits binary32 r) → r ≡ root_units (m * 2 ^ j) → IsRoot (m * 2 ^ j) r
  unfolding root_units
  scaled r f e =
      let n : ℕ = m * 2 ^ j in
      let w : ℕ = under m j in
      let x : ℕ = scale n in
      let q : ℕ = near_root (radicand n) in
      let p : ℕ = 2 ^ (2 * x) in
      let all : n * 2 ^ 149 ≡ w * p = under-is m j some small ∙ ap (λ (y : ℕ). w * 2 ^ (2 * y)) (sym (scale-is m j some small)) in
      let four : 4 * w * p ≡ 4 * (w * p) = mul_assoc 4 w p in
      let full : 2 ^ 23 ≤ q = digits_low m j some small in
      let near : Nearest w q = subst (λ (y : ℕ). Nearest w (near_root y)) (sym (radicand-is m j some small)) (near_nearest w (under-lt m j some small) (lt_of_lt_of_le (pow_pos 23) (subst (λ (y : ℕ). 2 ^ 23 ≤ near_root y) (radicand-is m j some small) full))) in
      record {
        q = q;
        k = x;
        value = subst (λ (y : Float). HasValue y false (q * 2 ^ x) (2 ^ 149)) (sym e) (odd_sign 24 false q x 149);
        held = f;
        full = full;
        short = digits_high m j some small;
        from = subst (λ (y : ℕ). 2 ^ 46 * p ≤ y) (sym all) (mul-le-mul_right p (under_ge m j some small));
        to = subst (λ (y : ℕ). y < 2 ^ 48 * p) (sym all) (mul-lt-mul_of_pos_right (under-lt m j some small) (pow_pos (2 * x)));
        low = subst (λ (y : ℕ). (2 * q - 1) * (2 * q - 1) * p < 4 * y) (sym all) (lt_of_lt_of_le (mul-lt-mul_of_pos_right near.low (pow_pos (2 * x))) (le_of_eq four));
        high = subst (λ (y : ℕ). 4 * y < (2 * q + 1) * (2 * q + 1) * p) (sym all) (lt_of_le_of_lt (le_of_eq (sym four)) (mul-lt-mul_of_pos_right near.high (pow_pos (2 * x))));
      }

root-fin : (m : ℕ) (e : ℤ) (n : ℕ) → T (fits binary32 (fin false (suc m) e)) → HasValue (fin false (suc m) e) false n (2 ^ 149) → IsRoot n (sqrt_of (fin false (suc m) e))
unfolding sqrt_of
root-fin m e n f v =
    let b : ℕ = to_bits binary32 (fin false (suc m) e) in
    let l = lead_in b (bits_pos m e f) in
    let r : of_bits binary32 (root_pattern (units_of b)) ≡ root_units (units_of b) = pattern_reads b (bits_pos m e f) (bits-lt m e f) in
    let g : T (fits binary32 (root_units (units_of b))) = subst (λ (x : Float). T (fits binary32 x)) r (of_bits-fits binary32 (root_pattern (units_of b))) in
    let i : IsRoot (units_of b) (root_units (units_of b)) = scaled (lead_of b) (field_of b - 1) l.0 l.1 (root_units (units_of b)) g refl in
    subst (λ (y : ℕ). IsRoot y (root_units (in_units (suc m) e))) (units_of_lem (suc m) e n v) (subst (λ (y : ℕ). IsRoot y (root_units y)) (sym (units_are m e f)) i)

-- the root of every f32 of n units of 2 ^ -149, n above 0
pub root_is : (x : Float) (n : ℕ) → T (fits binary32 x) → 0 < n → HasValue x false n (2 ^ 149) → IsRoot n (sqrt_of x)
root_is nan n f p v = absurd v
root_is (inf s) n f p v = absurd v
root_is (fin true m e) n f p v = absurd (true≢false v.0)
root_is (fin false zero e) n f p v = absurd (positive_of_value (fin false zero e) n (2 ^ 149) v p)
root_is (fin false (suc m) e) n f p v = root-fin m e n f v

-- every positive f32 is a whole number of units
pub has_units : (x : Float) → T (fits binary32 x) → T (positive x) → (0 < units_of (to_bits binary32 x)) × HasValue x false (units_of (to_bits binary32 x)) (2 ^ 149)
has_units x f p =
    let b : ℕ = to_bits binary32 x in
    let i = positive_bits x f p in
    (mul-pos (lead_in b i.0).0 (pow_pos (field_of b - 1)), subst (λ (y : Float). HasValue y false (units_of b) (2 ^ 149)) (of_bits-to_bits binary32 x f) (plus-value b i.1))

-- ---- and no other value has it
-- two values that fit and are the same number of units are equal
bits-by : (m : ℕ) (e : ℤ) (n : ℕ) (d : ℤ) → in_units m e ≡ in_units n d → to_bits binary32 (fin false m e) ≡ to_bits binary32 (fin false n d)
unfolding to_bits in_units
bits-by m e n d h = rw h

pub same-value : (x y : Float) (a : ℕ) → T (fits binary32 x) → T (fits binary32 y) → HasValue x false a (2 ^ 149) → HasValue y false a (2 ^ 149) → x ≡ y
same-value nan y a f g v w = absurd v
same-value (inf s) y a f g v w = absurd v
same-value (fin true m e) y a f g v w = absurd (true≢false v.0)
same-value (fin false m e) nan a f g v w = absurd w
same-value (fin false m e) (inf t) a f g v w = absurd w
same-value (fin false m e) (fin true n d) a f g v w = absurd (true≢false w.0)
same-value (fin false m e) (fin false n d) a f g v w =
    sym (of_bits-to_bits binary32 (fin false m e) f)
    ∙ ap (of_bits binary32) (bits-by m e n d (units_of_lem m e a v ∙ sym (units_of_lem n d a w)))
    ∙ of_bits-to_bits binary32 (fin false n d) g

pub exponent_le : (M k j : ℕ) → 2 ^ 46 * 2 ^ (2 * k) ≤ M → M < 2 ^ 48 * 2 ^ (2 * j) → k ≤ j
exponent_le M k j l h = le_of_suc-le-suc (lt_of_not-le (λ (g : suc j ≤ k). not-le_of_lt (lt_of_le_of_lt l h) (up g)))
  where
    up : suc j ≤ k → 2 ^ 48 * 2 ^ (2 * j) ≤ 2 ^ 46 * 2 ^ (2 * k)
    up g = le_trans (le_of_eq (sym (pow-add 2 48 (2 * j)))) (le_trans (pow_mono {i = 48 + 2 * j} {j = 46 + 2 * k} (omega arith)) (le_of_eq (pow-add 2 46 (2 * k))))

pub digits_le : (M p a b : ℕ) → (2 * a - 1) * (2 * a - 1) * p < M → M < (2 * b + 1) * (2 * b + 1) * p → a ≤ b
digits_le M p a b l h = le_of_suc-le-suc (lt_of_not-le (λ (g : suc b ≤ a). not-le_of_lt (lt_trans l h) (mul-le-mul_right p (up g))))
  where
    up : suc b ≤ a → (2 * b + 1) * (2 * b + 1) ≤ (2 * a - 1) * (2 * a - 1)
    up g = let s : 2 * b + 1 ≤ 2 * a - 1 = omega arith in mul-le-mul s s

pub root-only : (n : ℕ) (r s : Float) → IsRoot n r → IsRoot n s → r ≡ s
root-only n r s a b =
    let M : ℕ = n * 2 ^ 149 in
    let ek : a.k ≡ b.k = le_antisymm (exponent_le M a.k b.k a.from b.to) (exponent_le M b.k a.k b.from a.to) in
    let eq : a.q ≡ b.q =
    le_antisymm
    (digits_le (4 * M) (2 ^ (2 * b.k)) a.q b.q (subst (λ (k : ℕ). (2 * a.q - 1) * (2 * a.q - 1) * 2 ^ (2 * k) < 4 * M) ek a.low) b.high)
    (digits_le (4 * M) (2 ^ (2 * b.k)) b.q a.q b.low (subst (λ (k : ℕ). 4 * M < (2 * a.q + 1) * (2 * a.q + 1) * 2 ^ (2 * k)) ek a.high)) in
    same-value r s (b.q * 2 ^ b.k) a.held b.held
    (subst (λ (y : ℕ). HasValue r false (y * 2 ^ b.k) (2 ^ 149)) eq (subst (λ (y : ℕ). HasValue r false (a.q * 2 ^ y) (2 ^ 149)) ek a.value)) b.value
