-- The value of log2's answer: the whole number of 2^-21 that the digits give, cut by five digits from 2^24 on. Assumes nothing.
use mathlib.Core.Path.{◌≡◌, refl, sym, ap, ◌∙◌, subst}
use mathlib.Core.Logic.{inl, inr}
use Prim.Native.Nat.{ℕ, ◌+◌, ◌-◌, ◌*◌, ◌/◌, ◌^◌, ◌≤◌, ◌<◌}
use native.Mathlib.Nat.{le_trans, le_of_eq, le_of_lt, lt_of_lt_of_le, eq-zero-or-pos, mul-one, one-mul, mul_comm, mul_assoc, mul_right_comm, mul-lt-mul_of_pos_right}
use native.Mathlib.Omega.{arith}
use mathlib.Core.Bool.{Bool, true, false, not, cond}
use lib.IntN.{pos}
use lib.Dec.{T, ltb, leb, ltb→lt, nltb→le, leb→le, nleb→lt, lit<}
use lib.Pow.{pow-add, pow_pos, pow_mono}
use lib.Ieee.{Float, nan, inf, fin, binary32, up, down, round, mul, neg, of_int, of_bits}
use lib.Ieee.Exact.{HasValue, round_exact}
use lib.Ieee.Positive.{positive, positive_of_value, mul_at}
use Rattle.logexp.specs.Log.{scaled_of, joined}
use Rattle.logexp.specs.Claims.{Between}
use Rattle.logexp.specs.Claims as claims
use Rattle.float.proofs.Floats.{whole-value}

-- n / 2^k, for an n of 24 digits, is exact
quotient : (n d : ℕ) (y : Float) (k j : ℕ) → 0 < n → n < 2 ^ 24 → k + j ≡ 149 → d ≡ 2 ^ k → T (positive y) → HasValue y false 1 d → HasValue (mul binary32 (of_int binary32 (pos n)) y) false n d
quotient n d y k j p h e f py vy =
    let vx = whole-value n (le_of_lt h) in
    let dp : 0 < d = subst (λ (z : ℕ). 0 < z) (sym f) (pow_pos k) in
    let m = mul_at binary32 (of_int binary32 (pos n)) y n 1 1 d (positive_of_value (of_int binary32 (pos n)) n 1 vx p) py (lit< tt) dp vx vy in
    let eq : n * 1 * 2 ^ 149 ≡ n * 2 ^ j * (1 * d) =
    ap (λ (z : ℕ). z * 2 ^ 149) (mul-one n) ∙ ap (λ (z : ℕ). n * 2 ^ z) (sym e) ∙ ap (λ (z : ℕ). n * z) (pow-add 2 k j) ∙ turn n (2 ^ k) (2 ^ j) ∙ ap (λ (z : ℕ). n * 2 ^ j * (1 * z)) (sym f) in
    let small : n * 2 ^ j < 2 ^ (149 + 128) = lt_of_lt_of_le (mul-lt-mul_of_pos_right h (pow_pos j)) (le_trans (le_of_eq (sym (pow-add 2 24 j))) (pow_mono {i = 24 + j} {j = 149 + 128} (omega arith))) in
    let v = round_exact binary32 false (n * 1) (1 * d) n j (subst (λ (z : ℕ). 0 < z) (sym (one-mul d)) dp) h small eq in
    subst (λ (z : Float). HasValue z false n d) (sym m) (subst (λ (z : ℕ). HasValue (round binary32 false (n * 1) (1 * d)) false n z) (one-mul d) (subst (λ (z : ℕ). HasValue (round binary32 false (n * 1) (1 * d)) false z (1 * d)) (mul-one n) v))
  where
    turn : (n a b : ℕ) → n * (a * b) ≡ n * b * (1 * a)
    turn n a b = simp (one-mul, mul_assoc, mul_comm)

-- the number of 2^-21 that is kept
abbrev pub kept : ℕ → ℕ
kept n = cond (ltb n 0x100_0000) n (n / 32 * 32)

rescale : (x : Float) (s : Bool) (n : ℕ) → HasValue x s n (2 ^ 16) → HasValue x s (n * 32) (2 ^ 21)
rescale nan s n v = v
rescale (inf t) s n v = v
rescale (fin t m e) s n v = (v.0, go (m * up e) (down e) n v.1)
  where
    go : (a d n : ℕ) → a * 2 ^ 16 ≡ n * d → a * 2 ^ 21 ≡ n * 32 * d
    go a d n e = sym (mul_assoc a (2 ^ 16) 32) ∙ ap (λ (z : ℕ). z * 32) e ∙ mul_right_comm n d 32

pub scaled_value : (n : ℕ) → n < 2 ^ 29 → HasValue (scaled_of n) false (kept n) (2 ^ 21)
unfolding scaled_of of_bits
scaled_value n h = go (ltb n 0x100_0000) (ltb→lt n 0x100_0000) (nltb→le n 0x100_0000)
  where
    at_zero : HasValue (mul binary32 (of_int binary32 (pos 0)) (of_bits binary32 0x3500_0000)) false 0 (2 ^ 21)
    at_zero = unfold mul in unfold of_int in (refl, refl)

    small : n < 2 ^ 24 → HasValue (mul binary32 (of_int binary32 (pos n)) (of_bits binary32 0x3500_0000)) false n (2 ^ 21)
    small k = elim (eq-zero-or-pos n) [
      | inl z ↦ subst (λ (i : ℕ). HasValue (mul binary32 (of_int binary32 (pos i)) (of_bits binary32 0x3500_0000)) false i (2 ^ 21)) (sym z) at_zero
      | inr p ↦ quotient n (2 ^ 21) (of_bits binary32 0x3500_0000) 21 128 p k refl refl tt (refl, refl)
    ]

    go : (b : Bool) → (T b → n < 2 ^ 24) → (T (not b) → 2 ^ 24 ≤ n)
        → HasValue (cond b (mul binary32 (of_int binary32 (pos n)) (of_bits binary32 0x3500_0000)) (mul binary32 (of_int binary32 (pos (n / 2 ^ 5))) (of_bits binary32 0x3780_0000))) false (cond b n (n / 32 * 32)) (2 ^ 21)
    go true p q = small (p tt)
    go false p q =
        let g = q tt in
        rescale (mul binary32 (of_int binary32 (pos (n / 2 ^ 5))) (of_bits binary32 0x3780_0000)) false (n / 32)
        (quotient (n / 2 ^ 5) (2 ^ 16) (of_bits binary32 0x3780_0000) 16 133 (omega arith) (omega arith) refl refl tt (refl, refl))

pub neg_value : (x : Float) (a c : ℕ) → HasValue x false a c → HasValue (neg x) true a c
unfolding neg
neg_value nan a c v = v
neg_value (inf s) a c v = v
neg_value (fin s m e) a c v = (ap not v.0, v.1)

kept_in : (n lo : ℕ) → lo * 2 ^ 21 ≤ n → (lo * 2 ^ 21 ≤ kept n) × (kept n ≤ n)
kept_in n lo h = go (ltb n 0x100_0000)
  where
    go : (b : Bool) → (lo * 2 ^ 21 ≤ cond b n (n / 32 * 32)) × (cond b n (n / 32 * 32) ≤ n)
    go true = (h, le_of_eq refl)
    go false = (omega arith, omega arith)

-- the answer lies from the exponent to one more
pub joined_between : (e f : ℕ) → e ≤ 276 → f < 2 ^ 21 → Between e (joined e f)
unfolding joined
joined_between e f he hf = go (leb 149 e) (leb→le 149 e) (nleb→lt 149 e)
  where
    go : (b : Bool) → (T b → 149 ≤ e) → (T (not b) → e < 149) → Between e (cond b (scaled_of ((e - 149) * 2 ^ 21 + f)) (neg (scaled_of ((149 - e) * 2 ^ 21 - f))))
    go true p q =
        let g = p tt in
        let n = (e - 149) * 2 ^ 21 + f in
        let k = kept_in n (e - 149) (omega arith) in
        claims.Between.up (kept n) (2 ^ 21) (lit< tt) (scaled_value n (omega arith)) (omega arith) (omega arith)
    go false p q =
        let g = q tt in
        let n = (149 - e) * 2 ^ 21 - f in
        let k = kept_in n (148 - e) (omega arith) in
        claims.Between.down (kept n) (2 ^ 21) (lit< tt) (neg_value (scaled_of n) (kept n) (2 ^ 21) (scaled_value n (omega arith))) (omega arith) (omega arith)
