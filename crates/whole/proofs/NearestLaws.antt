-- The whole number nearest to a float: it is the only one, it is at most half off, a half goes to the larger, and the largest u32 stands for each value above it. Assumes nothing.
use Prim.Native.Nat.{ℕ, ◌+◌, ◌*◌, ◌≤◌, ◌<◌}
use native.Mathlib.Nat.{le_trans, lt_of_le_of_lt, mul-le-mul_right, lt_of_mul-lt-mul_right, div-mul-le_self, lt-div-mul-add, div-eq_of_lt-le}
use native.Mathlib.Omega.{arith}
use mathlib.Core.Bool.{true, false, false≢true}
use mathlib.Core.Path.{◌≡◌, refl, sym, ap, ◌∙◌, subst}
use lib.Dec.{T, lit≤}
use lib.Ieee.{Float, nan, inf, fin, down, le}
use lib.Ieee.Fits.{down_pos}
use lib.Ieee.Nearest.{div_same}
use lib.Ieee.Positive.{num, den, den_pos}
use borrow.Author.Tests.{le-ltb, lt-ltb}
use Rattle.float.specs.Num.{f0}
use Rattle.float.specs.Small.{finite}
use Rattle.float.proofs.Order.{minus_none}
use Rattle.whole.specs.Nearest.{Nearest, largest, saturated, nearest_to, nearest_of}

-- ---- nearest to a fraction

pub to_low : (a c : ℕ) → 0 < c → 2 * nearest_to a c * c ≤ 2 * a + c
unfolding nearest_to
to_low a c p = let under = div-mul-le_self (2 * a + c) (2 * c) in omega arith

pub to_high : (a c : ℕ) → 0 < c → 2 * a < (2 * nearest_to a c + 1) * c
unfolding nearest_to
to_high a c p = let some : 0 < 2 * c = omega arith in let over = lt-div-mul-add {a = 2 * a + c} some in omega arith

-- it is the only one
pub to-only : (a c n : ℕ) → 2 * n * c ≤ 2 * a + c → 2 * a < (2 * n + 1) * c → nearest_to a c ≡ n
unfolding nearest_to
to-only a c n l h = div-eq_of_lt-le {k = n} (2 * c) (omega arith) (omega arith)

-- equal fractions have the same
pub to_same : (a c b d : ℕ) → 0 < c → 0 < d → a * d ≡ b * c → nearest_to a c ≡ nearest_to b d
unfolding nearest_to
to_same a c b d p q e = div_same (2 * a + c) (2 * c) (2 * b + d) (2 * d) (omega arith) (omega arith) (omega arith)

-- at most n where the fraction is
pub to-most : (a c n : ℕ) → 0 < c → a ≤ n * c → nearest_to a c ≤ n
to-most a c n p h = go (nearest_to a c) (to_low a c p)
  where
    go : (q : ℕ) → 2 * q * c ≤ 2 * a + c → q ≤ n
    go q i = let less : q * (2 * c) < (n + 1) * (2 * c) = omega arith in let r : q < n + 1 = lt_of_mul-lt-mul_right (2 * c) less in omega arith

-- at least n where the fraction is
pub to-least : (a c n : ℕ) → 0 < c → n * c ≤ a → n ≤ nearest_to a c
to-least a c n p h = go (nearest_to a c) (to_high a c p)
  where
    go : (q : ℕ) → 2 * a < (2 * q + 1) * c → n ≤ q
    go q i = let less : n * (2 * c) < (q + 1) * (2 * c) = omega arith in let r : n < q + 1 = lt_of_mul-lt-mul_right (2 * c) less in omega arith

-- ---- up to the largest
pub saturated_keeps : (n : ℕ) → n ≤ largest → saturated n ≡ n
unfolding saturated
saturated_keeps n h = rw (le-ltb largest n h)

pub saturated_over : (n : ℕ) → largest < n → saturated n ≡ largest
unfolding saturated
saturated_over n h = rw (lt-ltb largest n h)

-- ---- nearest to a float that is finite, not below 0 and at most the largest u32

-- what the conditions leave of the definition
sized : (x : Float) → finite x ≡ true → T (le f0 x) → nearest_of x ≡ saturated (nearest_to (num x) (den x))
unfolding finite nearest_of
sized nan f p = absurd (false≢true f)
sized (inf s) f p = absurd (false≢true f)
sized (fin false m e) f p = refl
sized (fin true m e) f p = sym (ap (λ (a : ℕ). saturated (nearest_to a (down e))) (minus_none m e p) ∙ ap saturated (none (down e) (down_pos e)) ∙ saturated_keeps 0 (lit≤ tt))
  where
    none : (c : ℕ) → 0 < c → nearest_to 0 c ≡ 0
    none c q = to-only 0 c 0 (omega arith) (omega arith)

pub nearest_value : (x : Float) → finite x ≡ true → T (le f0 x) → num x ≤ largest * den x → nearest_of x ≡ nearest_to (num x) (den x)
nearest_value x f p h = sized x f p ∙ saturated_keeps (nearest_to (num x) (den x)) (to-most (num x) (den x) largest (den_pos x) h)

-- the answer is nearest
pub nearest_is : (x : Float) → finite x ≡ true → T (le f0 x) → num x ≤ largest * den x → Nearest x (nearest_of x)
nearest_is x f p h = subst (Nearest x) (sym (nearest_value x f p h)) (record { low = to_low (num x) (den x) (den_pos x); high = to_high (num x) (den x) (den_pos x) })

-- and no other number is
pub nearest_only : (x : Float) (n k : ℕ) → Nearest x n → Nearest x k → n ≡ k
nearest_only x n k i j = sym (to-only (num x) (den x) n i.low i.high) ∙ to-only (num x) (den x) k j.low j.high

-- it is at most half off, either way: n - 1/2 <= v <= n + 1/2
pub half_off : (x : Float) (n : ℕ) → Nearest x n → (2 * n * den x ≤ 2 * num x + den x) × (2 * num x ≤ 2 * n * den x + den x)
half_off x n h = (h.low, (let u = h.high in omega arith))

-- a half goes to the larger number: at n + 1/2 it is n + 1
pub half_up : (x : Float) (n : ℕ) → 2 * num x ≡ (2 * n + 1) * den x → Nearest x (n + 1)
half_up x n e = record { low = omega arith; high = (let p = den_pos x in omega arith) }

-- at most n where the value is
pub nearest_most : (x : Float) (n : ℕ) → finite x ≡ true → T (le f0 x) → n ≤ largest → num x ≤ n * den x → nearest_of x ≤ n
nearest_most x n f p l h = subst (λ (q : ℕ). q ≤ n) (sym (nearest_value x f p (le_trans h (under (den x))))) (to-most (num x) (den x) n (den_pos x) h)
  where
    under : (d : ℕ) → n * d ≤ largest * d
    under d = mul-le-mul_right d l

-- at least n where the value is
pub nearest_least : (x : Float) (n : ℕ) → finite x ≡ true → T (le f0 x) → num x ≤ largest * den x → n * den x ≤ num x → n ≤ nearest_of x
nearest_least x n f p h l = subst (λ (q : ℕ). n ≤ q) (sym (nearest_value x f p h)) (to-least (num x) (den x) n (den_pos x) l)

-- from half above the largest u32 on it is the largest
pub nearest_over : (x : Float) → finite x ≡ true → T (le f0 x) → (2 * largest + 1) * den x ≤ 2 * num x → nearest_of x ≡ largest
nearest_over x f p h = sized x f p ∙ saturated_over (nearest_to (num x) (den x)) (go (nearest_to (num x) (den x)) (to_high (num x) (den x) (den_pos x)))
  where
    go : (n : ℕ) → 2 * num x < (2 * n + 1) * den x → largest < n
    go n less = let r : 2 * largest + 1 < 2 * n + 1 = lt_of_mul-lt-mul_right (den x) (lt_of_le_of_lt h less) in omega arith
