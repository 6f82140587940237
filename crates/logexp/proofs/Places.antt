-- Where the tests of exp put a float's pattern. Assumes nothing.
use mathlib.Core.Path.{◌≡◌, refl, sym, ap, ◌∙◌, subst}
use mathlib.Core.Logic.{inl, inr}
use Prim.Native.Nat.{ℕ, ◌+◌, ◌-◌, ◌^◌, ◌≤◌, ◌<◌}
use native.Mathlib.Nat.{le_trans, le_of_eq, lt_of_le_of_lt, lt_of_not-le, eq-or-lt_of_le, mul-one}
use native.Mathlib.Omega.{arith}
use native.Mathlib.Decide.{dec_le}
use mathlib.Core.Bool.{true, false}
use lib.Dec.{T, lit<}
use lib.Pow.{pow_pos}
use lib.Ieee.{Float, inf, binary32, of_bits, to_bits, fits, le, ne}
use lib.Ieee.Order.{le_of_values}
use Rattle.float.specs.Pattern.{units_of}
use Rattle.logexp.specs.Exp.{f89, f_104}
use Rattle.float.proofs.Floats.{refuted, not-nan}
use Rattle.float.proofs.Order.{le_of_negatives}
use Rattle.float.proofs.Patterns.{units_mono, plus-value, minus_value, Pattern, plus, minus, pattern}

signed : (b m : ℕ) → b < 2147483648 → b ≡ 2147483648 + m → ⊥
signed b m h e = omega arith

unsigned : (b m : ℕ) → 2147483648 ≤ b → b ≡ m → m ≤ 2139095040 → ⊥
unsigned b m h e k = omega arith

inf_reads : of_bits binary32 2139095040 ≡ inf false
unfolding of_bits
inf_reads = refl

minus_inf_reads : of_bits binary32 (2147483648 + 2139095040) ≡ inf true
unfolding of_bits
minus_inf_reads = refl

from_89 : (x : Float) (m : ℕ) → 0x42b2_0000 ≤ m → m ≤ 2139095040 → x ≡ of_bits binary32 m → T (le f89 x)
unfolding le
from_89 x m lo hi e = elim (eq-or-lt_of_le hi) [
  | inl i ↦ subst (λ (y : Float). T (le f89 y)) (sym (e ∙ ap (of_bits binary32) i ∙ inf_reads)) tt
  | inr l ↦
      subst (λ (y : Float). T (le f89 y)) (sym e)
      (le_of_values f89 (of_bits binary32 m) 89 1 (units_of m) (2 ^ 149) (lit< tt) (pow_pos 149) (refl, refl) (plus-value m l)
      (le_trans (units_mono 0x42b2_0000 m lo) (le_of_eq (sym (mul-one (units_of m))))))
]

pub below_89 : (x : Float) → T (fits binary32 x) → ne x x ≡ false → le f89 x ≡ false → to_bits binary32 x < 2147483648 → to_bits binary32 x < 0x42b2_0000
below_89 x h n k p = go (pattern x h (not-nan x n))
  where
    go : Pattern x → to_bits binary32 x < 0x42b2_0000
    go (plus m hi e b) = elim (dec_le 0x42b2_0000 m) [ no n ↦ lt_of_le_of_lt (le_of_eq b) (lt_of_not-le n) | yes g ↦ absurd (refuted (le f89 x) k (from_89 x m g hi e)) ]
    go (minus m hi e b) = absurd (signed (to_bits binary32 x) m p b)

to_minus_104 : (x : Float) (m : ℕ) → 0x42d0_0000 ≤ m → m ≤ 2139095040 → x ≡ of_bits binary32 (2147483648 + m) → T (le x f_104)
unfolding le
to_minus_104 x m lo hi e = elim (eq-or-lt_of_le hi) [
  | inl i ↦ subst (λ (y : Float). T (le y f_104)) (sym (e ∙ ap (λ (k : ℕ). of_bits binary32 (2147483648 + k)) i ∙ minus_inf_reads)) tt
  | inr l ↦
      subst (λ (y : Float). T (le y f_104)) (sym e)
      (le_of_negatives (of_bits binary32 (2147483648 + m)) f_104 (units_of m) (2 ^ 149) 104 1 (pow_pos 149) (lit< tt) (minus_value m l) (refl, refl)
      (le_trans (units_mono 0x42d0_0000 m lo) (le_of_eq (sym (mul-one (units_of m))))))
]

less : (b m c : ℕ) → b ≡ 2147483648 + m → m < c → b - 2147483648 < c
less b m c e h = omega arith

pub above_minus_104 : (x : Float) → T (fits binary32 x) → ne x x ≡ false → le x f_104 ≡ false → 2147483648 ≤ to_bits binary32 x → to_bits binary32 x - 2147483648 < 0x42d0_0000
above_minus_104 x h n k p = go (pattern x h (not-nan x n))
  where
    go : Pattern x → to_bits binary32 x - 2147483648 < 0x42d0_0000
    go (plus m hi e b) = absurd (unsigned (to_bits binary32 x) m p b hi)
    go (minus m hi e b) = elim (dec_le 0x42d0_0000 m) [ no n ↦ less (to_bits binary32 x) m 0x42d0_0000 b (lt_of_not-le n) | yes g ↦ absurd (refuted (le x f_104) k (to_minus_104 x m g hi e)) ]
