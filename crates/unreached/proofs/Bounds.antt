-- Sizes of floats against powers of two, in units of 2 ^ -149, the smallest f32, through each operation. Assumes nothing.
use Prim.Native.Nat.{ℕ, zero, suc, ◌+◌, ◌-◌, ◌*◌, ◌^◌, ◌≤◌, ◌<◌, zero-le}
use native.Mathlib.Nat.{le_refl, le_of_suc-le-suc, zero-lt-suc, le_trans, le_of_eq, le_of_lt, lt_of_lt_of_le, lt_of_le_of_lt, lt_of_not-le, not-le_of_lt, lt_irrefl, eq-or-lt_of_le, mul-pos, mul_comm, mul_assoc, mul_left_comm, mul_right_comm, mul-mul-mul_comm, mul-le-mul, mul-le-mul_right, mul-lt-mul_of_pos_right, le_of_mul-le-mul_right, lt_of_mul-lt-mul_right, one-mul, zero-mul, add-mul, pow-suc}
use native.Mathlib.Omega.{arith}
use mathlib.Core.Path.{◌≡◌, refl, sym, ap, ◌∙◌, subst}
use mathlib.Core.Bool.{Bool, true, false, not, cond, ◌&&◌, beq, true≢false, false≢true}
use mathlib.Core.Logic.{◌⊎◌, inl, inr}
use lib.IntN.{pos}
use lib.Pow.{pow_pos, pow-add, pow_mono}
use lib.Dec.{T, ltb, eqb, ltb→lt, nltb→le, lit<}
use lib.Ieee.{Float, nan, inf, fin, binary32, up, down, unlike, neg, add, sub, mul, div, sum, round, units, size, span, climb, le, lt, eq}
use lib.Ieee.Digits.{size-lt, size-le, size_reaches}
use lib.Ieee.Exact.{HasValue, round_exact, units_val}
use lib.Ieee.Bits.{is_true}
use lib.Ieee.Fits.{round_is, up_pos, down_pos}
use lib.Ieee.Order.{round_mono, le_of_values, drop, kept}
use lib.Ieee.Scale.{grid, round_under}
use lib.Ieee.Scale as Kit
use lib.Ieee.Positive.{num, den, den_pos, first_pos}
use borrow.Author.Tests.{ne_eqb}
use Rattle.float.specs.Num.{◌⊕◌, ◌⊖◌, ◌⊗◌, ◌⊘◌, f0}
use Rattle.float.specs.Small.{finite}
use Rattle.float.proofs.Finite.{product_finite, value-finite, between_finite}
use Rattle.float.proofs.Floats.{zero_is, zero_rounds, lt_zero, eq-zero, zero_lt_zero, zero_eq_zero}
use Rattle.float.proofs.Order.{up_to, at_least}
use Rattle.float.proofs.Rises.{plain, round_plain}

-- ---- sizes

-- finite, and 2 ^ j units at most
pub record Most (j : ℕ) (x : Float) : Type 0 where
  pub number : finite x ≡ true
  pub most : num x * 2 ^ 149 ≤ 2 ^ j * den x

-- finite and without a sign
abbrev pub plus : Float → Bool
plus nan = false
plus (inf s) = false
plus (fin s m e) = not s

-- the same, and below 2 ^ j units
pub record Under (j : ℕ) (x : Float) : Type 0 where
  pub plus : T (plus x)
  pub under : num x * 2 ^ 149 < 2 ^ j * den x

-- the same, and 2 ^ j units at least
pub record Least (j : ℕ) (x : Float) : Type 0 where
  pub plus : T (plus x)
  pub least : 2 ^ j * den x ≤ num x * 2 ^ 149

pub plus-finite : (x : Float) → T (plus x) → finite x ≡ true
unfolding finite
plus-finite nan p = absurd p
plus-finite (inf s) p = absurd p
plus-finite (fin s m e) p = refl

pub most_mono : (i j : ℕ) (x : Float) → i ≤ j → Most i x → Most j x
most_mono i j x h p = record { number = p.number; most = le_trans p.most (mul-le-mul_right (den x) (pow_mono h)) }

-- ---- what is rounded

-- a power of two is exact up to the largest, and the next is infinite
power_value : (j : ℕ) → j ≤ 276 → HasValue (round binary32 false (2 ^ j) (2 ^ 149)) false (2 ^ j) (2 ^ 149)
power_value j h =
    round_exact binary32 false (2 ^ j) (2 ^ 149) 1 j (pow_pos 149) (lit< tt)
    (lt_of_le_of_lt (le_trans (le_of_eq (one-mul (2 ^ j))) (pow_mono h)) (lit< tt))
    (ap (λ (z : ℕ). z * 2 ^ 149) (sym (one-mul (2 ^ j))))

beyond : round binary32 false (2 ^ 277) (2 ^ 149) ≡ inf false
unfolding round size span climb units
beyond = refl

not-below : (a c : ℕ) → 0 < c → T (le f0 (round binary32 false a c))
not-below a c C = subst (λ (z : Float). T (le z (round binary32 false a c))) (sym zero_rounds) (round_mono binary32 0 1 a c (lit< tt) C (le_trans (le_of_eq (zero-mul c)) zero-le))

value_cross : (x : Float) (s : Bool) (a c : ℕ) → HasValue x s a c → num x * c ≡ a * den x
value_cross nan s a c v = absurd v
value_cross (inf t) s a c v = absurd v
value_cross (fin t m e) s a c v = v.1

is_finite : (x : Float) → finite x ≡ true → T (Kit.finite x)
unfolding finite
is_finite nan f = false≢true f
is_finite (inf s) f = false≢true f
is_finite (fin s m e) f = tt

-- with either sign the size is the same number of units
round-value : (s : Bool) (a c : ℕ) → finite (round binary32 false a c) ≡ true → HasValue (round binary32 s a c) s (grid binary32 a c) (2 ^ 149)
round-value s a c f =
    subst (λ (z : Float). HasValue z s (grid binary32 a c) (2 ^ 149)) (sym (round_is binary32 s a c))
    (units_val binary32 s (kept 24 (a * 2 ^ 149) c) (drop 24 (a * 2 ^ 149) c) (round_under binary32 a c (is_finite (round binary32 false a c) f)))

round-most : (s : Bool) (a c j : ℕ) → 0 < c → j ≤ 276 → a * 2 ^ 149 ≤ 2 ^ j * c → Most j (round binary32 s a c)
round-most s a c j C J h =
    let x : Float = round binary32 false a c in
    let y : Float = round binary32 false (2 ^ j) (2 ^ 149) in
    let v = power_value j J in
    let top : T (le x y) = round_mono binary32 a c (2 ^ j) (2 ^ 149) C (pow_pos 149) h in
    let f = between_finite x y (not-below a c C) top (value-finite y false (2 ^ j) (2 ^ 149) v) in
    let n = grid binary32 a c in
    let same = value_cross x false n (2 ^ 149) (round-value false a c f) in
    let few : n ≤ 2 ^ j = le_of_mul-le-mul_right (le_trans (le_of_eq (sym same)) (up_to x y (2 ^ j) (2 ^ 149) v (not-below a c C) top)) (den_pos x) in
    let z : Float = round binary32 s a c in
    let w = round-value s a c f in
    record { number = value-finite z s n (2 ^ 149) w; most = le_trans (le_of_eq (value_cross z s n (2 ^ 149) w)) (mul-le-mul_right (den z) few) }

plus_of : (x : Float) → T (plain x) → finite x ≡ true → T (plus x)
unfolding plain finite
plus_of nan p f = absurd p
plus_of (inf s) p f = absurd (false≢true f)
plus_of (fin s m e) p f = p

round-plus : (a c : ℕ) → finite (round binary32 false a c) ≡ true → T (plus (round binary32 false a c))
round-plus a c f = plus_of (round binary32 false a c) (round_plain a c) f

round-least : (a c j : ℕ) → 0 < c → j ≤ 276 → 2 ^ j * c ≤ a * 2 ^ 149 → finite (round binary32 false a c) ≡ true → Least j (round binary32 false a c)
round-least a c j C J h f =
    record {
      plus = round-plus a c f;
      least = at_least (round binary32 false a c) (round binary32 false (2 ^ j) (2 ^ 149)) (2 ^ j) (2 ^ 149) (power_value j J) f (round_mono binary32 (2 ^ j) (2 ^ 149) a c (pow_pos 149) C h);
    }

inf-top : (x : Float) → T (le (inf false) x) → finite x ≡ true → ⊥
unfolding le lt eq finite
inf-top nan h f = h
inf-top (inf s) h f = false≢true f
inf-top (fin s m e) h f = h

-- what rounds below a power of two is below it
round_back : (a c j : ℕ) → 0 < c → j ≤ 277 → Under j (round binary32 false a c) → a * 2 ^ 149 < 2 ^ j * c
round_back a c j C J u = lt_of_not-le (λ h. elim (eq-or-lt_of_le J) [
  | inl e ↦ inf-top (round binary32 false a c)
      (subst (λ (z : Float). T (le z (round binary32 false a c))) beyond
      (round_mono binary32 (2 ^ 277) (2 ^ 149) a c (pow_pos 149) C (subst (λ (i : ℕ). 2 ^ i * c ≤ a * 2 ^ 149) e h)))
      (plus-finite (round binary32 false a c) u.plus)
  | inr l ↦ not-le_of_lt u.under (round-least a c j C (before j l) h (plus-finite (round binary32 false a c) u.plus)).least
])
  where
    before : (j : ℕ) → j < 277 → j ≤ 276
    before j l = omega arith

-- ---- fractions: A / d, B / e with A * U ≤ I * d and B * U ≤ J * e

widen : (A d e I U : ℕ) → A * U ≤ I * d → A * e * U ≤ I * (d * e)
widen A d e I U h = le_trans (le_of_eq (mul_right_comm A e U)) (le_trans (mul-le-mul_right e h) (le_of_eq (mul_assoc I d e)))

doubled : (p q r : ℕ) → p ≤ r → q ≤ r → p + q ≤ r * 2
doubled p q r h k = omega arith

sum_fraction : (n a b c U j : ℕ) → n ≤ a + b → a * U ≤ 2 ^ j * c → b * U ≤ 2 ^ j * c → n * U ≤ 2 ^ suc j * c
sum_fraction n a b c U j s h k =
    le_trans (mul-le-mul_right U s)
    (le_trans (le_of_eq (add-mul a b U))
    (le_trans (doubled (a * U) (b * U) (2 ^ j * c) h k)
    (le_of_eq (sym (ap (λ (z : ℕ). z * c) (pow-suc 2 j) ∙ mul_right_comm (2 ^ j) 2 c)))))

product_fraction : (A d B e I J K U : ℕ) → 0 < U → A * U ≤ I * d → B * U ≤ J * e → I * J ≤ K * U → A * B * U ≤ K * (d * e)
product_fraction A d B e I J K U P h k l =
    le_of_mul-le-mul_right
    (le_trans (le_of_eq (mul_assoc (A * B) U U ∙ mul-mul-mul_comm A B U U))
    (le_trans (mul-le-mul h k)
    (le_trans (le_of_eq (mul-mul-mul_comm I d J e))
    (le_trans (mul-le-mul_right (d * e) l) (le_of_eq (mul_right_comm K U (d * e)))))))
    P

quotient_fraction : (A d B e I J K U : ℕ) → 0 < U → A * U ≤ I * d → J * e ≤ B * U → I * U ≤ K * J → A * e * U ≤ K * (B * d)
quotient_fraction A d B e I J K U P h k l =
    let first : A * e * U * U ≤ I * U * (d * e) = simp (mul_assoc, mul_comm, mul_left_comm) (simp (mul_assoc, mul_comm, mul_left_comm) at (mul-le-mul_right (e * U) h)) in
    let last : K * J * (d * e) ≤ K * (B * d) * U = simp (mul_assoc, mul_comm, mul_left_comm) (simp (mul_assoc, mul_comm, mul_left_comm) at (mul-le-mul_right (K * d) k)) in
    le_of_mul-le-mul_right (le_trans first (le_trans (mul-le-mul_right (d * e) l) last)) P

powers : (i j k l : ℕ) → i + j ≤ k + l → 2 ^ i * 2 ^ j ≤ 2 ^ k * 2 ^ l
powers i j k l h = le_trans (le_of_eq (sym (pow-add 2 i j))) (le_trans (pow_mono h) (le_of_eq (pow-add 2 k l)))

-- ---- each operation

cond-most : (j : ℕ) (b : Bool) (x y : Float) → Most j x → Most j y → Most j (cond b x y)
cond-most j true x y p q = p
cond-most j false x y p q = q

less-sum : (a b : ℕ) → a - b ≤ a + b
less-sum a b = omega arith

less_sum' : (a b : ℕ) → b - a ≤ a + b
less_sum' a b = omega arith

sum-most : (s : Bool) (a : ℕ) (t : Bool) (b c j : ℕ) → 0 < c → suc j ≤ 276 → a * 2 ^ 149 ≤ 2 ^ j * c → b * 2 ^ 149 ≤ 2 ^ j * c → Most (suc j) (sum binary32 s a t b c)
unfolding sum
sum-most s a t b c j C J h k =
    let part : (r : Bool) (n : ℕ) → n ≤ a + b → Most (suc j) (round binary32 r n c) = λ r n l. round-most r n c (suc j) C J (sum_fraction n a b c (2 ^ 149) j l h k) in
    cond-most (suc j) (beq s t) (round binary32 s (a + b) c) (cond (ltb a b) (round binary32 t (b - a) c) (round binary32 (s && ltb b a) (a - b) c)) (part s (a + b) (le_refl (a + b)))
    (cond-most (suc j) (ltb a b) (round binary32 t (b - a) c) (round binary32 (s && ltb b a) (a - b) c) (part t (b - a) (less_sum' a b)) (part (s && ltb b a) (a - b) (less-sum a b)))

pub add_most : (j : ℕ) (x y : Float) → suc j ≤ 276 → Most j x → Most j y → Most (suc j) (x ⊕ y)
unfolding add finite
add_most j nan y J p q = absurd (false≢true p.number)
add_most j (inf s) y J p q = absurd (false≢true p.number)
add_most j (fin s m e) nan J p q = absurd (false≢true q.number)
add_most j (fin s m e) (inf t) J p q = absurd (false≢true q.number)
add_most j (fin s m e) (fin t n d) J p q =
    sum-most s (m * up e * down d) t (n * up d * down e) (down e * down d) j (mul-pos (down_pos e) (down_pos d)) J
    (widen (m * up e) (down e) (down d) (2 ^ j) (2 ^ 149) p.most)
    (le_trans (widen (n * up d) (down d) (down e) (2 ^ j) (2 ^ 149) q.most) (le_of_eq (ap (λ (z : ℕ). 2 ^ j * z) (mul_comm (down d) (down e)))))

neg-most : (j : ℕ) (x : Float) → Most j x → Most j (neg x)
unfolding neg finite
neg-most j nan p = p
neg-most j (inf s) p = absurd (false≢true p.number)
neg-most j (fin s m e) p = record { number = refl; most = p.most }

pub sub-most : (j : ℕ) (x y : Float) → suc j ≤ 276 → Most j x → Most j y → Most (suc j) (x ⊖ y)
unfolding sub
sub-most j x y J p q = add_most j x (neg y) J p (neg-most j y q)

pub mul_most : (i j k : ℕ) (x y : Float) → k ≤ 276 → i + j ≤ k + 149 → Most i x → Most j y → Most k (x ⊗ y)
unfolding mul finite
mul_most i j k nan y K h p q = absurd (false≢true p.number)
mul_most i j k (inf s) y K h p q = absurd (false≢true p.number)
mul_most i j k (fin s m e) nan K h p q = absurd (false≢true q.number)
mul_most i j k (fin s m e) (inf t) K h p q = absurd (false≢true q.number)
mul_most i j k (fin s m e) (fin t n d) K h p q =
    round-most (unlike s t) (m * up e * (n * up d)) (down e * down d) k (mul-pos (down_pos e) (down_pos d)) K
    (product_fraction (m * up e) (down e) (n * up d) (down d) (2 ^ i) (2 ^ j) (2 ^ k) (2 ^ 149) (pow_pos 149) p.most q.most (powers i j k 149 h))

-- what is 2 ^ j units at least is not 0
least_pos : (j : ℕ) (y : Float) → Least j y → 0 < num y
least_pos j y l = first_pos (num y) (2 ^ 149) (lt_of_lt_of_le (mul-pos (pow_pos j) (den_pos y)) l.least)

pub div_most : (i j k : ℕ) (x y : Float) → k ≤ 276 → i + 149 ≤ k + j → Most i x → Least j y → Most k (x ⊘ y)
unfolding div finite
div_most i j k nan y K h p q = absurd (false≢true p.number)
div_most i j k (inf s) y K h p q = absurd (false≢true p.number)
div_most i j k (fin s m e) nan K h p q = absurd q.plus
div_most i j k (fin s m e) (inf t) K h p q = absurd q.plus
div_most i j k (fin s m e) (fin t n d) K h p q =
    let some : 0 < n * up d = least_pos j (fin t n d) q in
    rw (ne_eqb n 0 (λ z. lt_irrefl 0 (subst (λ (v : ℕ). 0 < v) z (first_pos n (up d) some))))
    (round-most (unlike s t) (m * up e * down d) (n * up d * down e) k (mul-pos some (down_pos e)) K
    (quotient_fraction (m * up e) (down e) (n * up d) (down d) (2 ^ i) (2 ^ j) (2 ^ k) (2 ^ 149) (pow_pos 149) p.most q.least (powers i 149 k j h)))

-- ---- squares, and sums of numbers without a sign: what they round

square_is : (x : Float) → finite x ≡ true → x ⊗ x ≡ round binary32 false (num x * num x) (den x * den x)
unfolding mul finite
square_is nan f = absurd (false≢true f)
square_is (inf s) f = absurd (false≢true f)
square_is (fin true m e) f = refl
square_is (fin false m e) f = refl

add_is : (x y : Float) → T (plus x) → T (plus y) → x ⊕ y ≡ round binary32 false (num x * den y + num y * den x) (den x * den y)
unfolding add sum
add_is nan y p q = absurd p
add_is (inf s) y p q = absurd p
add_is (fin true m e) y p q = absurd p
add_is (fin false m e) nan p q = absurd q
add_is (fin false m e) (inf t) p q = absurd q
add_is (fin false m e) (fin true n d) p q = absurd q
add_is (fin false m e) (fin false n d) p q = refl

pub square_plus : (x : Float) → finite (x ⊗ x) ≡ true → T (plus (x ⊗ x))
square_plus x f =
    let is = square_is x (product_finite x x f).0 in
    subst (λ (z : Float). T (plus z)) (sym is) (round-plus (num x * num x) (den x * den x) (subst (λ (z : Float). finite z ≡ true) is f))

pub add-plus : (x y : Float) → T (plus x) → T (plus y) → finite (x ⊕ y) ≡ true → T (plus (x ⊕ y))
add-plus x y p q f =
    let is = add_is x y p q in
    subst (λ (z : Float). T (plus z)) (sym is) (round-plus (num x * den y + num y * den x) (den x * den y) (subst (λ (z : Float). finite z ≡ true) is f))

-- a quotient of two such is one
pub div-plus : (x y : Float) → T (plus x) → T (plus y) → finite (x ⊘ y) ≡ true → T (plus (x ⊘ y))
unfolding div finite
div-plus nan y p q f = absurd p
div-plus (inf s) y p q f = absurd p
div-plus (fin true m e) y p q f = absurd p
div-plus (fin false m e) nan p q f = absurd q
div-plus (fin false m e) (inf t) p q f = absurd q
div-plus (fin false m e) (fin true n d) p q f = absurd q
div-plus (fin false m e) (fin false n d) p q f = go (eqb n 0) (eqb m 0) f
  where
    go : (a b : Bool) → finite (cond a (cond b nan (inf false)) (round binary32 false (m * up e * down d) (n * up d * down e))) ≡ true
        → T (plus (cond a (cond b nan (inf false)) (round binary32 false (m * up e * down d) (n * up d * down e))))
    go true true f = absurd (false≢true f)
    go true false f = absurd (false≢true f)
    go false b f = round-plus (m * up e * down d) (n * up d * down e) f

-- ---- back from a sum or a square below a power of two to its parts

first_part : (A B d e I U : ℕ) → (A * e + B * d) * U < I * (d * e) → A * U < I * d
first_part A B d e I U h =
    lt_of_mul-lt-mul_right e
    (lt_of_le_of_lt (le_trans (le_of_eq (mul_right_comm A U e)) (mul-le-mul_right U (front (A * e) (B * d)))) (lt_of_lt_of_le h (le_of_eq (sym (mul_assoc I d e)))))
  where
    front : (a b : ℕ) → a ≤ a + b
    front a b = omega arith

second_part : (A B d e I U : ℕ) → (A * e + B * d) * U < I * (d * e) → B * U < I * e
second_part A B d e I U h =
    lt_of_mul-lt-mul_right d
    (lt_of_le_of_lt (le_trans (le_of_eq (mul_right_comm B U d)) (mul-le-mul_right U (behind (A * e) (B * d))))
    (lt_of_lt_of_le h (le_of_eq (ap (λ (z : ℕ). I * z) (mul_comm d e) ∙ sym (mul_assoc I e d)))))
  where
    behind : (a b : ℕ) → b ≤ a + b
    behind a b = omega arith

pub add_back : (j : ℕ) (x y : Float) → j ≤ 277 → T (plus x) → T (plus y) → Under j (x ⊕ y) → Under j x × Under j y
add_back j x y J p q u =
    let is = add_is x y p q in
    let h = round_back (num x * den y + num y * den x) (den x * den y) j (mul-pos (den_pos x) (den_pos y)) J (subst (λ (z : Float). Under j z) is u) in
    (record { plus = p; under = first_part (num x) (num y) (den x) (den y) (2 ^ j) (2 ^ 149) h }, record { plus = q; under = second_part (num x) (num y) (den x) (den y) (2 ^ j) (2 ^ 149) h })

root-le : (a b : ℕ) → a * a < b * b → a ≤ b
root-le a b h = le_of_lt (lt_of_not-le (λ k. not-le_of_lt h (mul-le-mul k k)))

-- A / d squared below I units, with I * U up to H * H
root_fraction : (A d H I U : ℕ) → 0 < U → A * A * U < I * (d * d) → I * U ≤ H * H → A * U ≤ H * d
root_fraction A d H I U P h k =
    root-le (A * U) (H * d)
    (lt_of_le_of_lt (le_of_eq (sym (mul_assoc (A * A) U U ∙ mul-mul-mul_comm A A U U)))
    (lt_of_lt_of_le (mul-lt-mul_of_pos_right h P)
    (le_trans (le_of_eq (mul_right_comm I (d * d) U)) (le_trans (mul-le-mul_right (d * d) k) (le_of_eq (mul-mul-mul_comm H H d d))))))

pub square_back : (j h : ℕ) (x : Float) → j ≤ 277 → j + 149 ≤ h + h → Under j (x ⊗ x) → Most h x
square_back j h x J H u =
    let f = (product_finite x x (plus-finite (x ⊗ x) u.plus)).0 in
    let k = round_back (num x * num x) (den x * den x) j (mul-pos (den_pos x) (den_pos x)) J (subst (λ (z : Float). Under j z) (square_is x f) u) in
    record { number = f; most = root_fraction (num x) (den x) (2 ^ h) (2 ^ j) (2 ^ 149) (pow_pos 149) k (powers j 149 h h H) }

-- ---- between two powers of two

pub least_or_under : (j : ℕ) (x : Float) → T (plus x) → Least j x ⊎ Under j x
least_or_under j x p = go (ltb (num x * 2 ^ 149) (2 ^ j * den x)) (ltb→lt (num x * 2 ^ 149) (2 ^ j * den x)) (nltb→le (num x * 2 ^ 149) (2 ^ j * den x))
  where
    go : (b : Bool) → (T b → num x * 2 ^ 149 < 2 ^ j * den x) → (T (not b) → 2 ^ j * den x ≤ num x * 2 ^ 149) → Least j x ⊎ Under j x
    go true h k = inr (record { plus = p; under = h tt })
    go false h k = inl (record { plus = p; least = k tt })

-- 2 ^ power units at least, and below twice that
pub record Binade (x : Float) : Type 0 where
  pub power : ℕ
  pub fine : power ≤ 276
  pub least : Least power x
  pub under : Under (suc power) x

round_binade : (a c : ℕ) → finite (round binary32 false a c) ≡ true → 0 < num (round binary32 false a c) → Binade (round binary32 false a c)
round_binade a c f some = go (size n) refl
  where
    x : Float
    x = round binary32 false a c

    n : ℕ
    n = grid binary32 a c

    cross : num x * 2 ^ 149 ≡ n * den x
    cross = value_cross x false n (2 ^ 149) (round-value false a c f)

    not_none : size n ≡ 0 → ⊥
    not_none z = not-le_of_lt (subst (λ (k : ℕ). n < 2 ^ k) z (size-lt n)) (first_pos n (den x) (subst (λ (k : ℕ). 0 < k) cross (mul-pos some (pow_pos 149))))

    go : (z : ℕ) → size n ≡ z → Binade x
    go zero e = absurd (not_none e)
    go (suc k) e =
        let sign = round-plus a c f in
        record {
          power = k;
          fine = le_of_suc-le-suc (subst (λ (i : ℕ). i ≤ 277) e (size-le n 277 (round_under binary32 a c (is_finite x f))));
          least = record { plus = sign; least = le_trans (mul-le-mul_right (den x) (size_reaches n k (le_of_eq (sym e)))) (le_of_eq (sym cross)) };
          under = record { plus = sign; under = lt_of_le_of_lt (le_of_eq cross) (mul-lt-mul_of_pos_right (subst (λ (i : ℕ). n < 2 ^ i) e (size-lt n)) (den_pos x)) };
        }

pub add_binade : (x y : Float) → T (plus x) → T (plus y) → finite (x ⊕ y) ≡ true → 0 < num (x ⊕ y) → Binade (x ⊕ y)
add_binade x y p q f some =
    let is = add_is x y p q in
    subst (λ (z : Float). Binade z) (sym is)
    (round_binade (num x * den y + num y * den x) (den x * den y) (subst (λ (z : Float). finite z ≡ true) is f) (subst (λ (z : Float). 0 < num z) is some))

-- ---- against 0

pub plus-not_below : (x : Float) → T (plus x) → le f0 x ≡ true
plus-not_below x p =
    is_true (le f0 x)
    (subst (λ (z : Float). T (le z x)) (sym zero_is)
    (le_of_values (fin false 0 (pos 0)) x 0 1 (num x) (den x) (lit< tt) (den_pos x) (refl, refl) (own x p) (le_trans (le_of_eq (zero-mul (den x))) zero-le)))
  where
    own : (x : Float) → T (plus x) → HasValue x false (num x) (den x)
    own nan p = absurd p
    own (inf s) p = absurd p
    own (fin true m e) p = absurd p
    own (fin false m e) p = (refl, refl)

pub least_above : (j : ℕ) (x : Float) → Least j x → le x f0 ≡ false
unfolding le
least_above j nan l = refl
least_above j (inf s) l = absurd l.plus
least_above j (fin true m e) l = absurd l.plus
least_above j (fin false zero e) l = absurd (lt_irrefl 0 (subst (λ (v : ℕ). 0 < v) (zero-mul (up e)) (least_pos j (fin false zero e) l)))
least_above j (fin false (suc m) e) l = rw (lt_zero false m e, eq-zero false m e)

zero_at_most : (s : Bool) → le (fin s 0 (pos 0)) f0 ≡ true
unfolding le
zero_at_most s = rw (zero_lt_zero s (pos 0), zero_eq_zero s (pos 0))

-- a divisor with a quotient above 0 is finite and not 0
pub divisor : (x y : Float) → finite (x ⊘ y) ≡ true → le (x ⊘ y) f0 ≡ false → (finite y ≡ true) × (0 < num y)
unfolding div finite
divisor nan y f h = absurd (false≢true f)
divisor (inf s) nan f h = absurd (false≢true f)
divisor (inf s) (inf t) f h = absurd (false≢true f)
divisor (inf s) (fin t n d) f h = absurd (false≢true f)
divisor (fin s m e) nan f h = absurd (false≢true f)
divisor (fin s m e) (inf t) f h = absurd (true≢false (sym (zero_at_most (unlike s t)) ∙ h))
divisor (fin s m e) (fin t zero d) f h = absurd (neither (eqb m 0) f)
  where
    neither : (b : Bool) → finite (cond b nan (inf (unlike s t))) ≡ true → ⊥
    neither true f = false≢true f
    neither false f = false≢true f
divisor (fin s m e) (fin t (suc n) d) f h = (refl, mul-pos (zero-lt-suc n) (up_pos d))
