-- A significand below 2 ^ 24, brought to full width by its count of leading zeros. Assumes nothing.
use mathlib.Core.Path.{◌≡◌, sym, subst}
use Prim.Native.Nat.{ℕ, suc, ◌+◌, ◌*◌, ◌^◌, ◌≤◌, ◌<◌}
use native.Mathlib.Nat.{le_trans, le_of_eq, lt_of_lt_of_le, lt_of_le_of_lt, lt_of_not-le, not-le_of_lt, le_antisymm, mul-le-mul_right, suc-add}
use native.Mathlib.Omega.{arith}
use lib.Dec.{lit≤}
use lib.Pow.{pow-add, pow_mono, shl_lt}
use lib.Count.{count_leading_zeros, leading_top}
use lib.Ieee.{size}
use lib.Ieee.Digits.{size-lt, size-le}
use Rattle.float.specs.Pattern.{lead_of}
use Rattle.float.proofs.Patterns.{lead_in}

pub pow_lt_back : (i p : ℕ) → 2 ^ i < 2 ^ p → i < p
pow_lt_back i p h = lt_of_not-le (λ (g : p ≤ i). not-le_of_lt h (pow_mono g))

size_exact : (a n : ℕ) → 2 ^ a ≤ n → n < 2 ^ suc a → size n ≡ suc a
size_exact a n lo hi = le_antisymm (size-le n (suc a) hi) (pow_lt_back a (size n) (lt_of_le_of_lt lo (size-lt n)))

-- z zeros in front of the 32-digit word g
pub record Wide (g z : ℕ) : Type 0 where
  pub least : 8 ≤ z
  pub most : z < 32
  pub low : 2 ^ 31 ≤ g * 2 ^ z
  pub high : g * 2 ^ z < 2 ^ 32
  pub digits : (k : ℕ) → size (g * 2 ^ k) + z ≡ 32 + k

pub widen : (g : ℕ) → 0 < g → g < 2 ^ 24 → Wide g (count_leading_zeros 32 g)
widen g p h =
    let t = leading_top 32 g p (lt_of_lt_of_le h (lit≤ tt)) in
    let z : ℕ = count_leading_zeros 32 g in
    let j : ℕ = t.0 in
    let all : z + suc j ≡ 32 = t.1 in
    let small : j < 24 = pow_lt_back j 24 (lt_of_le_of_lt t.2 h) in
    let before : j + z ≡ 31 = omega arith in
    let after : suc j + z ≡ 32 = omega arith in
    record {
      least = omega arith;
      most = omega arith;
      low = subst (λ (x : ℕ). 2 ^ x ≤ g * 2 ^ z) before (le_trans (le_of_eq (pow-add 2 j z)) (mul-le-mul_right (2 ^ z) t.2));
      high = subst (λ (x : ℕ). g * 2 ^ z < 2 ^ x) after (shl_lt (suc j) z t.3);
      digits = λ k.
          let n : ℕ = g * 2 ^ k in
          let e : size n ≡ suc (j + k) = size_exact (j + k) n (le_trans (le_of_eq (pow-add 2 j k)) (mul-le-mul_right (2 ^ k) t.2)) (subst (λ (x : ℕ). n < 2 ^ x) (suc-add j k) (shl_lt (suc j) k t.3)) in
          omega arith;
    }

-- the significand of a pattern
pub wide_lead : (b g : ℕ) → 0 < b → g ≡ lead_of b → Wide g (count_leading_zeros 32 g)
wide_lead b g p e = subst (λ (x : ℕ). Wide x (count_leading_zeros 32 x)) (sym e) (widen (lead_of b) (lead_in b p).0 (lead_in b p).1)
