-- The root of a normal value from its pattern, with no zeros to count, and the whole-number check of a guess. Assumes nothing.
use Rattle.std.proofs.Common.{◌≡◌, ℕ, zero, suc, ◌+◌, ◌-◌, ◌*◌, ◌/◌, ◌%◌, ◌^◌, ◌<◌, ◌≤◌, Bool, true, false, cond, not, ◌&&◌, T, eqb, ltb, leb, refl, ap, ◌∙◌, subst, mul-le-mul, mul-pos, lt_of_not-le, mul-one, not-le_of_lt, arith, pow_pos, pow_mono, ltb-false, ltb-true, eqb-true, leb-true}
use lib.Count.{count_leading_zeros}
use lib.Ieee.{Float, binary32, fits, of_bits, to_bits}
use lib.Ieee.Bits.{of_bits-to_bits}
use lib.Ieee.Exact.{HasValue}
use lib.Ieee.Positive.{positive_of_value}
use borrow.Author.Tests.{eqb-false, not-true}
use Rattle.float.specs.Root.{near_root}
use Rattle.float.specs.Pattern.{field_of, units_of}
use Rattle.float.specs.Sqrt.{root_pattern, sqrt_of}
use Rattle.float.proofs.Bools.{both}
use Rattle.float.proofs.Patterns.{lead_in, normal_units, plus-value}
use Rattle.float.proofs.Width.{widen}
use Rattle.float.proofs.Scaled.{zeros, pattern_is}
use Rattle.float.proofs.SqrtClaims.{sqrt_steps}
use Rattle.quick.proofs.Three.{near_first, near-second, near-third}

-- a significand of full width has no zeros in front
no_zeros : (m : ℕ) → 2 ^ 23 ≤ m → m < 2 ^ 24 → zeros m ≡ 0
no_zeros m l h =
    let w = widen m (omega arith) h in
    let most : count_leading_zeros 32 m ≤ 8 = lt_of_not-le_8 m l w.high in
    omega arith
  where
    lt_of_not-le_8 : (m : ℕ) → 2 ^ 23 ≤ m → m * 2 ^ count_leading_zeros 32 m < 2 ^ 32 → count_leading_zeros 32 m ≤ 8
    lt_of_not-le_8 m l h = let k : count_leading_zeros 32 m < 9 = lt_of_not-le (λ (g : 9 ≤ count_leading_zeros 32 m). not-le_of_lt h (mul-le-mul {n₁ = 2 ^ 23} {n₂ = m} l (pow_mono g))) in omega arith

-- the root's pattern of m * 2 ^ k units, m of full width
full_pattern : (m k : ℕ) → 2 ^ 23 ≤ m → m < 2 ^ 24 → (126 + k) / 2 * 8388608 + near_root (m * 2 ^ (23 + (126 + k) % 2)) ≡ root_pattern (m * 2 ^ k)
full_pattern m k l h =
    let z : zeros m ≡ 0 = no_zeros m l h in
    rest (subst (λ (y : ℕ). (126 + k - y) / 2 * 8388608 + near_root (m * 2 ^ y * 2 ^ (23 + (126 + k - y) % 2)) ≡ root_pattern (m * 2 ^ k)) z (pattern_is m k (omega arith) h))
  where
    rest : (126 + k - 0) / 2 * 8388608 + near_root (m * 2 ^ 0 * 2 ^ (23 + (126 + k - 0) % 2)) ≡ root_pattern (m * 2 ^ k) → (126 + k) / 2 * 8388608 + near_root (m * 2 ^ (23 + (126 + k) % 2)) ≡ root_pattern (m * 2 ^ k)
    rest e =
        let a : 126 + k - 0 ≡ 126 + k = omega arith in
        let b : m * 2 ^ 0 ≡ m = mul-one m in
        rw (a, b) at e

-- ---- the same for a pattern from 2 ^ 23 on
abbrev pub exponent_of : ℕ → ℕ
exponent_of p = p / 8388608 + 125

abbrev pub digits_of : ℕ → ℕ
digits_of p = p % 8388608 + 8388608

pub normal_pattern : (p : ℕ) → 2 ^ 23 ≤ p → exponent_of p / 2 * 8388608 + near_root (digits_of p * 2 ^ (23 + exponent_of p % 2)) ≡ root_pattern (units_of p)
normal_pattern p l =
    let a : exponent_of p ≡ 126 + (p / 8388608 - 1) = omega arith in
    let b : digits_of p ≡ 8388608 + p % 8388608 = omega arith in
    rw (normal_units p l, a, b) (full_pattern (8388608 + p % 8388608) (p / 8388608 - 1) (omega arith) (omega arith))

-- ---- the guess k settled by n + k - k * k, which is w where it is below 2 ^ 32
exact : (n k w s : ℕ) → s ≤ 2 ^ 50 → w / 4294967296 ≡ 0 → (w + s) % 18446744073709551616 ≡ n + k → n + k ≡ s + w
exact n k w s h l e = omega arith

pub square_le : (k : ℕ) → k < 2 ^ 25 → k * k ≤ 2 ^ 50
square_le k h = let l : k ≤ 2 ^ 25 = omega arith in mul-le-mul l l

abbrev pub near_by : ℕ → ℕ → Bool
near_by k w = eqb (w / 4294967296) 0 && not (eqb (w % 4294967296) 0) && leb (w % 4294967296) (k + k + (k + k) + (k + k) + 6)

module _ (n k w : ℕ) (b : n < 2 ^ 48) (small : k < 2 ^ 25) (e : (w + k * k) % 18446744073709551616 ≡ n + k) (near : near_by k w ≡ true) where
  whole : w / 4294967296 ≡ 0
  whole = eqb-true _ 0 (both (eqb (w / 4294967296) 0) _ (both (eqb (w / 4294967296) 0 && not (eqb (w % 4294967296) 0)) _ near).0).0

  some : 0 < w % 4294967296
  some = go (w % 4294967296) (eqb-false (w % 4294967296) 0 (not-true _ (both (eqb (w / 4294967296) 0) _ (both (eqb (w / 4294967296) 0 && not (eqb (w % 4294967296) 0)) _ near).0).1))
    where
      go : (t : ℕ) → (t ≡ 0 → ⊥) → 0 < t
      go zero f = absurd (f refl)
      go (suc t) f = omega arith

  most : w % 4294967296 ≤ k + k + (k + k) + (k + k) + 6
  most = leb-true _ _ (both (eqb (w / 4294967296) 0 && not (eqb (w % 4294967296) 0)) _ near).1

  gap_is : n + k ≡ k * k + w % 4294967296
  gap_is = let x = exact n k w (k * k) (square_le k small) whole e in let l = whole in omega arith

  pub settled : k + cond (ltb (k + k) (w % 4294967296)) 1 0 + cond (ltb (k + k + (k + k) + 2) (w % 4294967296)) 1 0 ≡ near_root n
  settled = go (w % 4294967296) some most gap_is (ltb (k + k) (w % 4294967296)) refl (ltb (k + k + (k + k) + 2) (w % 4294967296)) refl
    where
      go : (t : ℕ) → 0 < t → t ≤ k + k + (k + k) + (k + k) + 6 → n + k ≡ k * k + t → (x : Bool) → ltb (k + k) t ≡ x → (y : Bool) → ltb (k + k + (k + k) + 2) t ≡ y → k + cond x 1 0 + cond y 1 0 ≡ near_root n
      go t l h q false p false r = let a = ltb-false (k + k) t p in (let s : k + 0 + 0 ≡ k = omega arith in s) ∙ near_first n k t b q l (omega arith)
      go t l h q true p false r = let a = ltb-true (k + k) t p in let c = ltb-false (k + k + (k + k) + 2) t r in (let s : k + 1 + 0 ≡ suc k = omega arith in s) ∙ near-second n k t b q (omega arith) (omega arith)
      go t l h q true p true r = let a = ltb-true (k + k + (k + k) + 2) t r in (let s : k + 1 + 1 ≡ suc (suc k) = omega arith in s) ∙ near-third n k t b q (omega arith) (omega arith)
      go t l h q false p true r = let a = ltb-false (k + k) t p in let c = ltb-true (k + k + (k + k) + 2) t r in let z : ⊥ = omega arith in absurd z

-- the number under the root, with a doubled significand for an odd exponent
pub doubled_is : (m e : ℕ) → cond (eqb (e % 2) 1) (m + m) m * 8388608 ≡ m * 2 ^ (23 + e % 2)
doubled_is m e = go (e % 2) (let h : e % 2 < 2 = omega arith in h)
  where
    go : (r : ℕ) → r < 2 → cond (eqb r 1) (m + m) m * 8388608 ≡ m * 2 ^ (23 + r)
    go zero h = refl
    go (suc zero) h = let z : (m + m) * 8388608 ≡ m * 16777216 = omega arith in z
    go (suc (suc r)) h = let z : ⊥ = omega arith in absurd z

-- ---- the pattern found is the root's
units_pos : (b : ℕ) → 0 < b → 0 < units_of b
units_pos b h = mul-pos (lead_in b h).0 (pow_pos (field_of b - 1))

pub found : (d : Float) (root : ℕ) → T (fits binary32 d) → 2 ^ 23 ≤ to_bits binary32 d → to_bits binary32 d < 0x7f80_0000 → root ≡ root_pattern (units_of (to_bits binary32 d)) → of_bits binary32 root ≡ sqrt_of d
found d root f l h e =
    let b : ℕ = to_bits binary32 d in
    let v : HasValue d false (units_of b) (2 ^ 149) = subst (λ (y : Float). HasValue y false (units_of b) (2 ^ 149)) (of_bits-to_bits binary32 d f) (plus-value b h) in
    ap (of_bits binary32) e ∙ sqrt_steps d f (positive_of_value d (units_of b) (2 ^ 149) v (units_pos b (omega arith)))
