-- What rises with its argument: the root, the larger of a value and a floor, and a difference with a fixed number. Assumes nothing.
use Prim.Native.Nat.{ℕ, zero, suc, ◌+◌, ◌-◌, ◌*◌, ◌^◌, ◌≤◌, ◌<◌}
use native.Mathlib.Nat.{le_of_lt, le_trans, le_of_eq, lt_of_lt_of_le, eq-or-lt_of_le, mul-pos, mul_comm, mul_assoc, mul_left_comm, mul-le-mul_right, mul-sub}
use native.Mathlib.Omega.{arith}
use mathlib.Core.Path.{◌≡◌, refl, sym, subst, ◌∙◌}
use mathlib.Core.Bool.{Bool, true, false, cond, not, ◌||◌}
use mathlib.Core.Logic.{◌⊎◌, ⊎_elim, inl, inr}
use lib.IntN.{ℤ}
use lib.Pow.{pow_pos, pow-add, pow_mono}
use lib.Dec.{T, ltb, eqb, ltb→lt, lt→ltb, eqb→eq}
use lib.Ieee.{Float, nan, inf, fin, binary32, up, down, lt, le, eq, is_nan, fits, round, units, odd, neg, add, sub, mul, sum}
use lib.Ieee.Fits.{down_pos, round_is, and_l}
use lib.Ieee.Order.{round_mono, le_of_values}
use lib.Ieee.Positive.{num, den, positive, den_pos, le→cross, cross→le, values_of_le, above_of_le, positive_of_value, through}
use borrow.Author.Tests.{ltb-true, ltb-false, le-ltb}
use Rattle.float.specs.Num.{◌⊖◌, ◌⊗◌}
use Rattle.float.specs.Small.{max_of}
use Rattle.float.specs.Sqrt.{sqrt_of}
use Rattle.float.specs.Square.{IsRoot}
use Rattle.float.proofs.SqrtClaims.{root_is, has_units, exponent_le, digits_le}

-- ---- the root

four_times : (a b : ℕ) → a ≤ b → 4 * a ≤ 4 * b
four_times a b h = omega arith

root_order : (M M' q k q' k' : ℕ) → M ≤ M' → 2 ^ 46 * 2 ^ (2 * k) ≤ M → M' < 2 ^ 48 * 2 ^ (2 * k') → (2 * q - 1) * (2 * q - 1) * 2 ^ (2 * k) < 4 * M
    → 4 * M' < (2 * q' + 1) * (2 * q' + 1) * 2 ^ (2 * k') → q < 2 ^ 24 → 2 ^ 23 ≤ q' → q * 2 ^ k ≤ q' * 2 ^ k'
root_order M M' q k q' k' h from to low' high short full =
    ⊎_elim
    (λ e. subst (λ (j : ℕ). q * 2 ^ k ≤ q' * 2 ^ j) e
    (mul-le-mul_right (2 ^ k)
    (digits_le (4 * M') (2 ^ (2 * k)) q q' (lt_of_lt_of_le low' (four_times M M' h)) (subst (λ (j : ℕ). 4 * M' < (2 * q' + 1) * (2 * q' + 1) * 2 ^ (2 * j)) (sym e) high))))
    (λ less. le_trans (mul-le-mul_right {m = q} {n = 2 ^ 24} (2 ^ k) (omega arith))
    (le_trans (le_of_eq (sym (pow-add 2 24 k)))
    (le_trans (pow_mono {i = 24 + k} {j = 23 + k'} (omega arith)) (le_trans (le_of_eq (pow-add 2 23 k')) (mul-le-mul_right (2 ^ k') full)))))
    (eq-or-lt_of_le (exponent_le M' k k' (le_trans from h) to))

above_zero : (q : ℕ) → 2 ^ 23 ≤ q → 0 < q
above_zero q h = omega arith

root_positive : (n : ℕ) (r : Float) → IsRoot n r → T (positive r)
root_positive n r i = positive_of_value r (i.q * 2 ^ i.k) (2 ^ 149) i.value (mul-pos (above_zero i.q i.full) (pow_pos i.k))

root_mono : (n n' : ℕ) (r r' : Float) → n * 2 ^ 149 ≤ n' * 2 ^ 149 → IsRoot n r → IsRoot n' r' → T (le r r')
root_mono n n' r r' h i j =
    le_of_values r r' (i.q * 2 ^ i.k) (2 ^ 149) (j.q * 2 ^ j.k) (2 ^ 149) (pow_pos 149) (pow_pos 149) i.value j.value
    (mul-le-mul_right (2 ^ 149) (root_order (n * 2 ^ 149) (n' * 2 ^ 149) i.q i.k j.q j.k h i.from j.to i.low j.high i.short j.full))

pub sqrt_positive : (x : Float) → T (fits binary32 x) → T (positive x) → T (positive (sqrt_of x))
sqrt_positive x f p = let u = has_units x f p in root_positive _ _ (root_is x _ f u.0 u.1)

-- the root rises
pub sqrt_mono : (x y : Float) → T (fits binary32 x) → T (fits binary32 y) → T (positive x) → T (positive y) → T (le x y) → T (le (sqrt_of x) (sqrt_of y))
sqrt_mono x y f g p q h =
    let u = has_units x f p in
    let v = has_units y g q in
    root_mono _ _ _ _ (values_of_le x y _ (2 ^ 149) _ (2 ^ 149) p q u.1 v.1 h) (root_is x _ f u.0 u.1) (root_is y _ g v.0 v.1)

-- ---- not below a floor

pub lt_cross : (x c : Float) → T (positive x) → T (positive c) → lt x c ≡ ltb (num x * den c) (num c * den x)
unfolding lt
lt_cross nan c p q = absurd p
lt_cross (inf s) c p q = absurd p
lt_cross (fin true m e) c p q = absurd p
lt_cross (fin false m e) nan p q = absurd q
lt_cross (fin false m e) (inf t) p q = absurd q
lt_cross (fin false m e) (fin true n d) p q = absurd q
lt_cross (fin false m e) (fin false n d) p q = refl

max-by : (x c : Float) → T (positive x) → max_of x c ≡ cond (lt x c) c x
unfolding max_of is_nan
max-by nan c p = absurd p
max-by (inf s) c p = absurd p
max-by (fin s m e) c p = refl

module _ (c : Float) (q : T (positive c)) where
  pub le_self : T (le c c)
  le_self = cross→le c c q q (le_of_eq refl)

  -- a value that is not below a floor
  pub floor_positive : (x : Float) → T (positive x) → T (positive (max_of x c))
  floor_positive x p = rw (max-by x c p) (go (lt x c))
    where
      go : (t : Bool) → T (positive (cond t c x))
      go true = q
      go false = p

  pub floor_least : (x : Float) → T (positive x) → T (le c (max_of x c))
  floor_least x p = rw (max-by x c p, lt_cross x c p q) (go (ltb (num x * den c) (num c * den x)) refl)
    where
      go : (t : Bool) → ltb (num x * den c) (num c * den x) ≡ t → T (le c (cond t c x))
      go true e = le_self
      go false e = cross→le c x q p (ltb-false _ _ e)

  pub floor_mono : (x y : Float) → T (positive x) → T (positive y) → T (le x y) → T (le (max_of x c) (max_of y c))
  floor_mono x y p r h = rw (max-by x c p, lt_cross x c p q) (go (ltb (num x * den c) (num c * den x)))
    where
      right : (t : Bool) → ltb (num y * den c) (num c * den y) ≡ t → T (le x (cond t c y))
      right true e = cross→le x c p q (through (num x) (num y) (num c) (den x) (den y) (den c) (den_pos y) (le→cross x y p r h) (le_of_lt (ltb-true _ _ e)))
      right false e = h

      go : (t : Bool) → T (le (cond t c x) (max_of y c))
      go true = floor_least y r
      go false = rw (max-by y c r, lt_cross y c r q) (right (ltb (num y * den c) (num c * den y)) refl)

-- ---- signs

-- a float that is NaN, negative or zero
unfoldable pub low : Float → Bool
low nan = true
low (inf s) = s
low (fin s m e) = s || eqb m 0

-- a number without a sign
unfoldable pub plain : Float → Bool
plain nan = false
plain (inf s) = not s
plain (fin s m e) = not s

-- ---- what rises

-- a difference that may be negative or no number, and a later one: at its end both are positive, or the first is cut off, or the second is infinite
pub data Rise : Float → Float → Type 0 where
  cut : {x y : Float} → T (low x) → Rise x y
  top : {x : Float} → Rise x (inf false)
  both : {x y : Float} → T (positive x) → T (positive y) → T (le x y) → Rise x y

positive_by : (m : ℕ) (e : ℤ) → T (low (fin false m e)) ⊎ T (positive (fin false m e))
unfolding low
positive_by zero e = inl tt
positive_by (suc m) e = inr (lt→ltb 0 (suc m) (omega arith))

pub rise_of_le : (x y : Float) → T (plain x) → T (plain y) → T (le x y) → Rise x y
unfolding plain
rise_of_le nan y p q h = absurd p
rise_of_le (inf true) y p q h = absurd p
rise_of_le (inf false) nan p q h = absurd q
rise_of_le (inf false) (inf true) p q h = absurd q
rise_of_le (inf false) (inf false) p q h = top
rise_of_le (inf false) (fin s n d) p q h = absurd (unfold le in h)
rise_of_le (fin true m e) y p q h = absurd p
rise_of_le (fin false m e) nan p q h = absurd q
rise_of_le (fin false m e) (inf true) p q h = absurd q
rise_of_le (fin false m e) (inf false) p q h = top
rise_of_le (fin false m e) (fin true n d) p q h = absurd q
rise_of_le (fin false m e) (fin false n d) p q h =
    ⊎_elim cut (λ k. both k (above_of_le (fin false m e) (fin false n d) k h) h) (positive_by m e)

-- ---- the sign of what is rounded

odd_plain : (d q k l : ℕ) → T (plain (odd d false q k l))
unfolding odd plain
odd_plain d zero k l = tt
odd_plain d (suc q) k l = tt

odd_low : (d q k l : ℕ) → T (low (odd d true q k l))
unfolding odd low
odd_low d zero k l = tt
odd_low d (suc q) k l = tt

units_plain : (q k : ℕ) → T (plain (units binary32 false q k))
unfolding units
units_plain q k = go (ltb (q * 2 ^ k) (2 ^ (149 + 128)))
  where
    go : (b : Bool) → T (plain (cond b (odd 25 false q k 149) (inf false)))
    go true = odd_plain 25 q k 149
    go false = unfold plain in tt

units_low : (q k : ℕ) → T (low (units binary32 true q k))
unfolding units
units_low q k = go (ltb (q * 2 ^ k) (2 ^ (149 + 128)))
  where
    go : (b : Bool) → T (low (cond b (odd 25 true q k 149) (inf true)))
    go true = odd_low 25 q k 149
    go false = unfold low in tt

pub round_plain : (a b : ℕ) → T (plain (round binary32 false a b))
round_plain a b = rw (round_is binary32 false a b) (units_plain _ _)

round-low : (a b : ℕ) → T (low (round binary32 true a b))
round-low a b = rw (round_is binary32 true a b) (units_low _ _)

pub mul_plain : (x y : Float) → T (positive x) → T (positive y) → T (plain (x ⊗ y))
unfolding mul
mul_plain nan y p q = absurd p
mul_plain (inf s) y p q = absurd p
mul_plain (fin true m e) y p q = absurd p
mul_plain (fin false m e) nan p q = absurd q
mul_plain (fin false m e) (inf t) p q = absurd q
mul_plain (fin false m e) (fin true n d) p q = absurd q
mul_plain (fin false m e) (fin false n d) p q = round_plain (m * up e * (n * up d)) (down e * down d)

-- ---- the difference with a base

less-sub : (p q r s : ℕ) → p ≤ r → q ≡ s → p - q ≤ r - s
less-sub p q r s h e = omega arith

grow : (X dx Z dz Y dy : ℕ) → X * dz ≤ Z * dx → (X * dy - Y * dx) * (dz * dy) ≤ (Z * dy - Y * dz) * (dx * dy)
grow X dx Z dz Y dy h =
    let a : dz * dy * (X * dy) ≤ dx * dy * (Z * dy) = simp (mul_assoc, mul_left_comm) (simp (mul_assoc, mul_comm) at (mul-le-mul_right (dy * dy) h)) in
    let b : dz * dy * (Y * dx) ≡ dx * dy * (Y * dz) = simp (mul_assoc, mul_comm, mul_left_comm) in
    le_trans (le_of_eq (mul_comm (X * dy - Y * dx) (dz * dy) ∙ mul-sub (dz * dy) (X * dy) (Y * dx)))
    (le_trans (less-sub _ _ _ _ a b)
    (le_of_eq (sym (mul_comm (Z * dy - Y * dz) (dx * dy) ∙ mul-sub (dx * dy) (Z * dy) (Y * dz)))))

or_cases : (a b : Bool) → T (a || b) → T a ⊎ T b
or_cases true b t = inl tt
or_cases false b t = inr t

le_cross : (m : ℕ) (e : ℤ) (n : ℕ) (d : ℤ) → T (le (fin false m e) (fin false n d)) → m * up e * down d ≤ n * up d * down e
unfolding le lt eq
le_cross m e n d h =
    ⊎_elim (λ t. let k = ltb→lt (m * up e * down d) (n * up d * down e) t in omega arith)
    (λ t. le_of_eq (eqb→eq (m * up e * down d) (n * up d * down e) (and_l (eqb (m * up e * down d) (n * up d * down e)) true t)))
    (or_cases (ltb (m * up e * down d) (n * up d * down e)) _ h)

module _ (m : ℕ) (e : ℤ) (n : ℕ) (d : ℤ) where
  abbrev over : ℕ
  over = m * up e * down d

  abbrev under : ℕ
  under = n * up d * down e

  sub_is : (t : Bool) → ltb over under ≡ t → fin false m e ⊖ fin false n d ≡ cond t (round binary32 true (under - over) (down e * down d)) (round binary32 false (over - under) (down e * down d))
  unfolding sub add neg sum
  sub_is t h = rw h

differ : (m : ℕ) (e : ℤ) (m' : ℕ) (e' : ℤ) (n : ℕ) (d : ℤ) → T (le (fin false m e) (fin false m' e'))
    → (t : Bool) → ltb (over m e n d) (under m e n d) ≡ t → Rise (fin false m e ⊖ fin false n d) (fin false m' e' ⊖ fin false n d)
differ m e m' e' n d h true k = rw (sub_is m e n d true k) (cut (round-low _ _))
differ m e m' e' n d h false k =
    let first : under m e n d ≤ over m e n d = ltb-false _ _ k in
    let then : under m' e' n d ≤ over m' e' n d = through (n * up d) (m * up e) (m' * up e') (down d) (down e) (down e') (down_pos e) first (le_cross m e m' e' h) in
    rw (sub_is m e n d false k, sub_is m' e' n d false (le-ltb _ _ then))
    (rise_of_le _ _ (round_plain _ _) (round_plain _ _)
    (round_mono binary32 _ _ _ _ (mul-pos (down_pos e) (down_pos d)) (mul-pos (down_pos e') (down_pos d)) (grow (m * up e) (down e) (m' * up e') (down e') (n * up d) (down d) (le_cross m e m' e' h))))

no_number : T (low (inf false ⊖ inf false))
unfolding sub add neg low
no_number = tt

below_all : (m : ℕ) (e : ℤ) → T (low (fin false m e ⊖ inf false))
unfolding sub add neg low
below_all m e = tt

still_top : (s : Bool) (n : ℕ) (d : ℤ) → inf false ⊖ fin s n d ≡ inf false
unfolding sub add neg
still_top s n d = refl

-- of two squares the larger leaves no less over any base
pub rise_sub : (x y b : Float) → T (plain x) → T (plain y) → T (plain b) → T (le x y) → Rise (x ⊖ b) (y ⊖ b)
unfolding plain
rise_sub nan y b p q r h = absurd p
rise_sub (inf true) y b p q r h = absurd p
rise_sub (inf false) nan b p q r h = absurd q
rise_sub (inf false) (inf true) b p q r h = absurd q
rise_sub (inf false) (fin s n d) b p q r h = absurd (unfold le in h)
rise_sub (inf false) (inf false) nan p q r h = absurd r
rise_sub (inf false) (inf false) (inf true) p q r h = absurd r
rise_sub (inf false) (inf false) (inf false) p q r h = cut no_number
rise_sub (inf false) (inf false) (fin s n d) p q r h = rw (still_top s n d) top
rise_sub (fin true m e) y b p q r h = absurd p
rise_sub (fin false m e) nan b p q r h = absurd q
rise_sub (fin false m e) (inf true) b p q r h = absurd q
rise_sub (fin false m e) (fin true m' e') b p q r h = absurd q
rise_sub (fin false m e) (inf false) nan p q r h = absurd r
rise_sub (fin false m e) (inf false) (inf true) p q r h = absurd r
rise_sub (fin false m e) (inf false) (inf false) p q r h = cut (below_all m e)
rise_sub (fin false m e) (inf false) (fin s n d) p q r h = rw (still_top s n d) top
rise_sub (fin false m e) (fin false m' e') nan p q r h = absurd r
rise_sub (fin false m e) (fin false m' e') (inf true) p q r h = absurd r
rise_sub (fin false m e) (fin false m' e') (inf false) p q r h = cut (below_all m e)
rise_sub (fin false m e) (fin false m' e') (fin true n d) p q r h = absurd r
rise_sub (fin false m e) (fin false m' e') (fin false n d) p q r h = differ m e m' e' n d h (ltb (over m e n d) (under m e n d)) refl
