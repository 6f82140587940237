-- No value of binary32 is nearer to the root than `IsRoot`'s. For a value of a units, the rounded root's R units, and the root of M = n * 2 ^ 149:
-- where a < R the mean of the two is not above the root, and where R < a it is not below: (a + R) ^ 2 against 4 * M. A negative value is farther off than 0. Assumes nothing.
use mathlib.Core.Path.{◌≡◌, refl, sym, ap, ◌∙◌, subst}
use Prim.Native.Nat.{ℕ, zero, suc, ◌+◌, ◌-◌, ◌*◌, ◌^◌, ◌≤◌, ◌<◌}
use native.Mathlib.Nat.{le_trans, le_of_eq, le_of_lt, lt_of_le_of_lt, lt_of_lt_of_le, lt_of_not-le, not-le_of_lt, mul_assoc, mul-pos, add-mul, mul-mul-mul_comm, mul-le-mul, mul-le-mul_right, lt_of_mul-lt-mul_right, two-mul, zero-mul, zero-div}
use native.Mathlib.Omega.{arith}
use native.Mathlib.Decide.{dec_le}
use mathlib.Core.Bool.{Bool, true, false, true≢false}
use lib.IntN.{ℤ}
use lib.Dec.{T}
use lib.Pow.{pow_pos, pow-add, pow_mono, shl_lt}
use lib.Ieee.{Float, nan, inf, fin, binary32, up, fits, to_bits}
use lib.Ieee.Exact.{HasValue}
use Rattle.float.specs.Pattern.{lead_of, field_of}
use Rattle.float.specs.Sqrt.{in_units}
use Rattle.float.specs.Square.{IsRoot, NoNearer}
use Rattle.float.proofs.Patterns.{lead_in, bits_pos, units_of_lem, units_are}

square_scaled : (x k : ℕ) → x * 2 ^ k * (x * 2 ^ k) ≡ x * x * 2 ^ (2 * k)
square_scaled x k = mul-mul-mul_comm x (2 ^ k) x (2 ^ k) ∙ ap (λ (y : ℕ). x * x * y) (sym (pow-add 2 k k) ∙ ap (λ (y : ℕ). 2 ^ y) (sym (two-mul k)))

-- a significand and a count of zeros
abbrev Digits : ℕ → Type 0
Digits a = (m : ℕ) × (j : ℕ) × (m < 2 ^ 24) × (a ≡ m * 2 ^ j)

none : (e : ℤ) → in_units 0 e ≡ 0
unfolding in_units
none e = rw (zero-mul (up e), zero-div)

digits_of : (y : Float) (a : ℕ) → T (fits binary32 y) → HasValue y false a (2 ^ 149) → Digits a
digits_of nan a f v = absurd v
digits_of (inf s) a f v = absurd v
digits_of (fin true m e) a f v = absurd (true≢false v.0)
digits_of (fin false zero e) a f v = (0, 0, pow_pos 24, sym (units_of_lem 0 e a v) ∙ none e)
digits_of (fin false (suc m) e) a f v =
    let b : ℕ = to_bits binary32 (fin false (suc m) e) in
    (lead_of b, field_of b - 1, (lead_in b (bits_pos m e f)).1, sym (units_of_lem (suc m) e a v) ∙ units_are m e f)

-- from 2 ^ 23 * 2 ^ k units on, every value is a multiple of 2 ^ k
multiple : (a k : ℕ) → Digits a → 2 ^ 23 * 2 ^ k ≤ a → (t : ℕ) × (a ≡ t * 2 ^ k)
multiple a k d h =
    let m : ℕ = d.0 in
    let j : ℕ = d.1 in
    let big : 2 ^ (23 + k) < 2 ^ (24 + j) = lt_of_le_of_lt (le_trans (le_of_eq (pow-add 2 23 k)) (le_trans h (le_of_eq d.3))) (shl_lt 24 j d.2) in
    let over : 23 + k < 24 + j = lt_of_not-le (λ (g : 24 + j ≤ 23 + k). not-le_of_lt big (pow_mono g)) in
    let parts : j - k + k ≡ j = omega arith in
    (m * 2 ^ (j - k), d.3 ∙ ap (λ (y : ℕ). m * 2 ^ y) (sym parts) ∙ ap (λ (y : ℕ). m * y) (pow-add 2 (j - k) k) ∙ sym (mul_assoc m (2 ^ (j - k)) (2 ^ k)))

edge_le : (M p : ℕ) → 2 ^ 46 * p ≤ M → 2 ^ 24 * 2 ^ 24 * p ≤ 4 * M
edge_le M p h = omega arith

squares : (a b : ℕ) → a ≤ b → a * a ≤ b * b
squares a b h = mul-le-mul h h

module _ (n : ℕ) (r : Float) (i : IsRoot n r) (a : ℕ) (d : Digits a) where
  -- a + R ≤ (2 * q - 1) * 2 ^ k, where a is at most (q - 1) * 2 ^ k
  under_mean : a ≤ (i.q - 1) * 2 ^ i.k → (a + i.q * 2 ^ i.k) * (a + i.q * 2 ^ i.k) ≤ 4 * (n * 2 ^ 149)
  under_mean h =
      let q : ℕ = i.q in
      let k : ℕ = i.k in
      let f = i.full in
      let e : q - 1 + q ≡ 2 * q - 1 = omega arith in
      let s : a + q * 2 ^ k ≤ (2 * q - 1) * 2 ^ k = le_trans (subst (λ (y : ℕ). a + q * 2 ^ k ≤ y) (sym (add-mul (q - 1) q (2 ^ k))) (omega arith)) (le_of_eq (ap (λ (y : ℕ). y * 2 ^ k) e)) in
      le_trans (squares _ _ s) (le_trans (le_of_eq (square_scaled (2 * q - 1) k)) (le_of_lt i.low))

  pub below : a < i.q * 2 ^ i.k → (a + i.q * 2 ^ i.k) * (a + i.q * 2 ^ i.k) ≤ 4 * (n * 2 ^ 149)
  below h = either (dec_le (2 ^ 23 * 2 ^ i.k) a) (dec_le (2 ^ 23 + 1) i.q)
    where
      last : (t : ℕ) → a ≡ t * 2 ^ i.k → a ≤ (i.q - 1) * 2 ^ i.k
      last t e =
          let l : t < i.q = lt_of_mul-lt-mul_right (2 ^ i.k) (subst (λ (y : ℕ). y < i.q * 2 ^ i.k) e h) in
          subst (λ (y : ℕ). y ≤ (i.q - 1) * 2 ^ i.k) (sym e) (mul-le-mul_right (2 ^ i.k) (omega arith))

      edge : i.q ≡ 2 ^ 23 → (a + i.q * 2 ^ i.k) * (a + i.q * 2 ^ i.k) ≤ 4 * (n * 2 ^ 149)
      edge e =
          let s : a + i.q * 2 ^ i.k ≤ 2 ^ 24 * 2 ^ i.k = subst (λ (y : ℕ). a + y * 2 ^ i.k ≤ 2 ^ 24 * 2 ^ i.k) (sym e) (let g = subst (λ (y : ℕ). a < y * 2 ^ i.k) e h in omega arith) in
          le_trans (squares _ _ s) (le_trans (le_of_eq (square_scaled (2 ^ 24) i.k)) (edge_le (n * 2 ^ 149) (2 ^ (2 * i.k)) i.from))

      either : Dec (2 ^ 23 * 2 ^ i.k ≤ a) → Dec (2 ^ 23 + 1 ≤ i.q) → (a + i.q * 2 ^ i.k) * (a + i.q * 2 ^ i.k) ≤ 4 * (n * 2 ^ 149)
      either (yes g) o = let t = multiple a i.k d g in under_mean (last t.0 t.1)
      either (no g) (yes o) = under_mean (le_trans (le_of_lt (lt_of_not-le g)) (mul-le-mul_right (2 ^ i.k) (omega arith)))
      either (no g) (no o) = edge (let l = lt_of_not-le o in let f = i.full in omega arith)

  pub above : i.q * 2 ^ i.k < a → 4 * (n * 2 ^ 149) ≤ (a + i.q * 2 ^ i.k) * (a + i.q * 2 ^ i.k)
  above h =
      let q : ℕ = i.q in
      let k : ℕ = i.k in
      let t = multiple a k d (le_trans (mul-le-mul_right (2 ^ k) i.full) (le_of_lt h)) in
      let l : q < t.0 = lt_of_mul-lt-mul_right (2 ^ k) (subst (λ (y : ℕ). q * 2 ^ k < y) t.1 h) in
      let s : (2 * q + 1) * 2 ^ k ≤ a + q * 2 ^ k = le_trans (mul-le-mul_right {m = 2 * q + 1} {n = t.0 + q} (2 ^ k) (omega arith)) (le_of_eq (add-mul t.0 q (2 ^ k) ∙ ap (λ (y : ℕ). y + q * 2 ^ k) (sym t.1))) in
      le_trans (le_of_lt i.high) (le_trans (le_of_eq (sym (square_scaled (2 * q + 1) k))) (squares _ _ s))

-- a negative value is farther from the root than 0 is
under_zero : (n : ℕ) (r : Float) (i : IsRoot n r) (a : ℕ) → (i.q * 2 ^ i.k - a) * (i.q * 2 ^ i.k - a) ≤ 4 * (n * 2 ^ 149)
under_zero n r i a =
    le_trans (squares _ _ (sub-le (i.q * 2 ^ i.k) a))
    (below n r i 0 (0, 0, pow_pos 24, refl) (mul-pos (lt_of_lt_of_le (pow_pos 23) i.full) (pow_pos i.k)))
  where
    sub-le : (R a : ℕ) → R - a ≤ 0 + R
    sub-le R a = omega arith

-- the statement over values: r is the root of n units, y any value of binary32, of a units
pub closest : (n : ℕ) (r : Float) (i : IsRoot n r) (y : Float) (negative : Bool) (a : ℕ) → T (fits binary32 y) → HasValue y negative a (2 ^ 149) → NoNearer negative a (i.q * 2 ^ i.k) (n * 2 ^ 149)
closest n r i y false a f v = (below n r i a (digits_of y a f v), above n r i a (digits_of y a f v))
closest n r i y true a f v = under_zero n r i a
