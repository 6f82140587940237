-- Once the four quotients are finite and above 0, their roots, the largest root and the scaled roots are, and the scaled roots go up to 1. Assumes nothing.
use Prim.Native.Nat.{ℕ, zero, suc, ◌+◌, ◌-◌, ◌*◌, ◌^◌, ◌≤◌, ◌<◌}
use native.Mathlib.Nat.{zero-lt-suc, le_trans, le_of_eq, le_of_lt, lt_of_lt_of_le, lt_of_le_of_lt, mul-pos, mul-one, one-mul, zero-mul, mul_right_comm, mul-le-mul_right}
use native.Mathlib.Omega.{arith}
use mathlib.Core.Path.{◌≡◌, refl, sym, ap, ◌∙◌}
use mathlib.Core.List.{List, [], ◌∷◌}
use mathlib.Core.Logic.{◌⊎◌, inl, inr}
use mathlib.Core.Bool.{Bool, true, false, cond, not}
use lib.Count.{count_trailing_zeros}
use lib.Dec.{T, lit<, eqb-suc-zero}
use lib.Pow.{pow_pos, pow-add, pow_mono, shl_lt}
use lib.Ieee.{Float, nan, inf, fin, binary32, up, down, lt, le, is_nan, fits, div, round, of_bits, of_fields, odd}
use lib.Ieee.Bits.{is_true}
use lib.Ieee.Exact.{HasValue, round_exact}
use lib.Ieee.Fits.{div-fits, up_pos}
use lib.Ieee.Order.{round_mono, transfer}
use lib.Ieee.Positive.{num, den, positive, den_pos, own_value, value_pos, value→cross, positive_of_value, le→cross, le_trans_positive, between}
use lib.Ieee.Scale.{round_same}
use borrow.Author.Tests.{lt-ltb}
use Rattle.float.specs.Num.{◌⊘◌, f0, f1}
use Rattle.float.specs.Small.{finite, max_of}
use Rattle.float.specs.Sqrt.{sqrt_of}
use Rattle.float.proofs.Bools.{says, both, all_four}
use Rattle.float.proofs.Floats.{zero_is, one_rounds, lt_zero, eq-zero}
use Rattle.float.proofs.Patterns.{lead_in, field_in, positive_bits}
use Rattle.float.proofs.Rises.{le_self, floor_least}
use Rattle.float.proofs.SqrtClaims.{root_is, has_units}
use Rattle.float.proofs.Width.{pow_lt_back}
use Rattle.fit.specs.Cubic.{◌at◌}
use Rattle.profile.specs.Four.{quotients_of, roots_of, over_of, largest_by, largest_of, usable, all_usable}
use Rattle.profile.specs.Profile.{usable_roots}
use Rattle.unreached.specs.Unit.{Part, Scaled}

-- ---- usable is positive

usable-is : (x : Float) → usable x ≡ positive x
unfolding usable finite lt
usable-is nan = refl
usable-is (inf s) = refl
usable-is (fin true m e) = rw zero_is
usable-is (fin false zero e) = rw (zero_is, zero-mul (down e), zero-mul (up e))
usable-is (fin false (suc m) e) = rw (zero_is, zero-mul (down e)) (lt-ltb 0 (suc m * up e * 1) (mul-pos (mul-pos (zero-lt-suc m) (up_pos e)) (zero-lt-suc 0)) ∙ sym (lt-ltb 0 (suc m) (zero-lt-suc m)))

positive_usable : (x : Float) → T (positive x) → usable x ≡ true
positive_usable x p = usable-is x ∙ is_true (positive x) p

usable_positive : (x : Float) → usable x ≡ true → T (positive x)
usable_positive x h = says (positive x) (sym (usable-is x) ∙ h)

positive-finite : (x : Float) → T (positive x) → finite x ≡ true
unfolding usable
positive-finite x p = (both (finite x) (lt f0 x) (positive_usable x p)).0

positive_over : (x : Float) → T (positive x) → not (le x f0) ≡ true
unfolding le
positive_over nan p = absurd p
positive_over (inf s) p = absurd p
positive_over (fin true m e) p = absurd p
positive_over (fin false zero e) p = absurd p
positive_over (fin false (suc m) e) p = rw (lt_zero false m e, eq-zero false m e)

all_positive : (v : List Float) → T (positive (v at 0)) → T (positive (v at 1)) → T (positive (v at 2)) → T (positive (v at 3)) → all_usable v ≡ true
unfolding all_usable
all_positive v a b c d = rw (positive_usable (v at 0) a, positive_usable (v at 1) b, positive_usable (v at 2) c, positive_usable (v at 3) d)

-- ---- a root

-- q * 2 ^ k units of 2 ^ -149 with a q of 24 digits, from 2 ^ -75 up to 2 ^ 64
record Rooted (r : Float) : Type 0 where
  q : ℕ
  k : ℕ
  value : HasValue r false (q * 2 ^ k) (2 ^ 149)
  full : 2 ^ 23 ≤ q
  short : q < 2 ^ 24
  least : 51 ≤ k
  most : k ≤ 189

-- an f32 is below 2 ^ 277 units
units_below : (g x : ℕ) → g < 2 ^ 24 → x ≤ 254 → g * 2 ^ (x - 1) < 2 ^ 277
units_below g x small field = lt_of_lt_of_le (shl_lt 24 (x - 1) small) (pow_mono {i = 24 + (x - 1)} {j = 277} (omega arith))

exponent_most : (k n : ℕ) → 2 ^ 46 * 2 ^ (2 * k) ≤ n * 2 ^ 149 → n < 2 ^ 277 → k ≤ 189
exponent_most k n h small = half (pow_lt_back (46 + 2 * k) 426 (lt_of_le_of_lt (le_trans (le_of_eq (pow-add 2 46 (2 * k))) h) (shl_lt 277 149 small)))
  where
    half : 46 + 2 * k < 426 → k ≤ 189
    half l = omega arith

exponent_least : (k n : ℕ) → 0 < n → n * 2 ^ 149 < 2 ^ 48 * 2 ^ (2 * k) → 51 ≤ k
exponent_least k n some h =
    half (pow_lt_back 149 (48 + 2 * k) (lt_of_le_of_lt (le_trans (le_of_eq (sym (one-mul (2 ^ 149)))) (mul-le-mul_right (2 ^ 149) some)) (lt_of_lt_of_le h (le_of_eq (sym (pow-add 2 48 (2 * k)))))))
  where
    half : 149 < 48 + 2 * k → 51 ≤ k
    half l = omega arith

rooted : (x : Float) → T (fits binary32 x) → T (positive x) → Rooted (sqrt_of x)
rooted x f p =
    let u = has_units x f p in
    let i = root_is x _ f u.0 u.1 in
    let b = positive_bits x f p in
    record {
      q = i.q;
      k = i.k;
      value = i.value;
      full = i.full;
      short = i.short;
      least = exponent_least i.k _ u.0 i.to;
      most = exponent_most i.k _ i.from (units_below _ _ (lead_in _ b.0).1 (field_in _ b.1).1);
    }

rooted_positive : (r : Float) → Rooted r → T (positive r)
rooted_positive r i = positive_of_value r (i.q * 2 ^ i.k) (2 ^ 149) i.value (mul-pos (lt_of_lt_of_le (pow_pos 23) i.full) (pow_pos i.k))

-- ---- a root over one that is no smaller

one_positive : T (positive f1)
unfolding of_bits of_fields odd count_trailing_zeros
one_positive = tt

-- 2 ^ -139
abbrev least : Float
least = round binary32 false 1 (2 ^ 139)

least_positive : T (positive least)
least_positive = positive_of_value least 1 (2 ^ 139) (round_exact binary32 false 1 (2 ^ 139) 1 10 (pow_pos 139) (lit< tt) (lit< tt) refl) (pow_pos 0)

div_is : (x y : Float) → T (positive x) → T (positive y) → x ⊘ y ≡ round binary32 false (num x * den y) (num y * den x)
unfolding div
div_is nan y p q = absurd p
div_is (inf s) y p q = absurd p
div_is (fin true m e) y p q = absurd p
div_is (fin false m e) nan p q = absurd q
div_is (fin false m e) (inf t) p q = absurd q
div_is (fin false m e) (fin true n d) p q = absurd q
div_is (fin false m e) (fin false zero d) p q = absurd q
div_is (fin false m e) (fin false (suc n) d) p q = rw (eqb-suc-zero n)

number-above : (x : Float) → T (positive x) → 0 < num x
number-above x p = value_pos x (num x) (den x) p (den_pos x) (own_value x p)

by_itself : (x : Float) → T (positive x) → x ⊘ x ≡ f1
by_itself x p =
    let n : ℕ = num x * den x in
    let some : 0 < n = mul-pos (number-above x p) (den_pos x) in
    div_is x x p p ∙ round_same binary32 false n n 1 1 some (pow_pos 0) (mul-one n ∙ sym (one-mul n)) ∙ sym one_rounds

ratio : (q k q' k' : ℕ) → 2 ^ 23 ≤ q → 51 ≤ k → q' < 2 ^ 24 → k' ≤ 189 → q' * 2 ^ k' ≤ q * 2 ^ k * 2 ^ 139
ratio q k q' k' full low short high =
    le_trans (le_of_lt (shl_lt 24 k' short))
    (le_trans (pow_mono {i = 24 + k'} {j = 23 + k + 139} (omega arith))
    (le_trans (le_of_eq (pow-add 2 (23 + k) 139 ∙ ap (λ (z : ℕ). z * 2 ^ 139) (pow-add 2 23 k))) (mul-le-mul_right (2 ^ 139) (mul-le-mul_right (2 ^ k) full))))

-- one root is at most 2 ^ 139 times another
wide : (r m : Float) → Rooted r → Rooted m → 1 * (num m * den r) ≤ num r * den m * 2 ^ 139
wide r m i j =
    le_trans (le_of_eq (one-mul (num m * den r)))
    (le_trans
    (transfer (num m) (num r * 2 ^ 139) (den m) (den r) (j.q * 2 ^ j.k) (i.q * 2 ^ i.k * 2 ^ 139) (2 ^ 149) (2 ^ 149) (pow_pos 149) (pow_pos 149)
    (value→cross m _ _ j.value)
    (mul_right_comm (num r) (2 ^ 139) (2 ^ 149) ∙ ap (λ (z : ℕ). z * 2 ^ 139) (value→cross r _ _ i.value) ∙ mul_right_comm (i.q * 2 ^ i.k) (den r) (2 ^ 139))
    (mul-le-mul_right (2 ^ 149) (ratio i.q i.k j.q j.k i.full i.least j.short j.most)))
    (le_of_eq (mul_right_comm (num r) (2 ^ 139) (den m))))

-- so the quotient lies above 0 and up to 1
part : (r m : Float) → Rooted r → Rooted m → T (le r m) → Part (r ⊘ m)
part r m i j h =
    let p = rooted_positive r i in
    let s = rooted_positive m j in
    let a : ℕ = num r * den m in
    let b : ℕ = num m * den r in
    let some : 0 < b = mul-pos (number-above m s) (den_pos r) in
    let low : T (le least (r ⊘ m)) = rw (div_is r m p s) (round_mono binary32 1 (2 ^ 139) a b (pow_pos 139) some (wide r m i j)) in
    let high : T (le (r ⊘ m) f1) =
    rw (div_is r m p s, one_rounds) (round_mono binary32 a b 1 1 some (pow_pos 0) (le_trans (le_of_eq (mul-one a)) (le_trans (le→cross r m p s h) (le_of_eq (sym (one-mul b)))))) in
    record { fitting = div-fits binary32 r m; above = between least (r ⊘ m) f1 least_positive one_positive low high; most = high }

-- ---- the largest

-- what holds of two holds of the larger
max_keeps : (P : Float → Type 0) (a b : Float) → P a → P b → P (max_of a b)
unfolding max_of
max_keeps P a b p q = go (is_nan a) (lt a b)
  where
    go : (s t : Bool) → P (cond s b (cond t b a))
    go true t = q
    go false true = q
    go false false = p

le_of_below : (x y : Float) → lt x y ≡ true → T (le x y)
unfolding le
le_of_below x y h = rw h tt

-- the larger is not below the left
max-left : (a b : Float) → T (positive a) → T (le a (max_of a b))
unfolding max_of is_nan
max-left nan b p = absurd p
max-left (inf s) b p = absurd p
max-left (fin s m e) b p = go (lt (fin s m e) b) refl
  where
    go : (t : Bool) → lt (fin s m e) b ≡ t → T (le (fin s m e) (cond t b (fin s m e)))
    go true h = le_of_below (fin s m e) b h
    go false h = le_self (fin s m e) p

-- four roots over the largest of them
module _ (a b c d : Float) (i : Rooted a) (j : Rooted b) (k : Rooted c) (l : Rooted d) where
  abbrev top : Float
  top = max_of (max_of a b) (max_of c d)

  first_rooted : Rooted (max_of a b)
  first_rooted = max_keeps Rooted a b i j

  last_rooted : Rooted (max_of c d)
  last_rooted = max_keeps Rooted c d k l

  top_rooted : Rooted top
  top_rooted = max_keeps Rooted (max_of a b) (max_of c d) first_rooted last_rooted

  -- x, not above the larger y of its pair, over the largest
  under_top : (x y : Float) → Rooted x → Rooted y → T (le x y) → T (le y top) → Part (x ⊘ top)
  under_top x y r s h g = part x top r top_rooted (le_trans_positive x y top (rooted_positive x r) (rooted_positive y s) (rooted_positive top top_rooted) h g)

  -- one of the four over x is 1
  abbrev One : Float → Type 0
  One x = (a ⊘ x ≡ f1) ⊎ (b ⊘ x ≡ f1) ⊎ (c ⊘ x ≡ f1) ⊎ (d ⊘ x ≡ f1)

  scaled : Scaled ((a ⊘ top) ∷ (b ⊘ top) ∷ (c ⊘ top) ∷ (d ⊘ top) ∷ [])
  scaled =
      let whole : (x : Float) → Rooted x → x ⊘ x ≡ f1 = λ x r. by_itself x (rooted_positive x r) in
      let first : T (le (max_of a b) top) = max-left (max_of a b) (max_of c d) (rooted_positive _ first_rooted) in
      let last : T (le (max_of c d) top) = floor_least (max_of c d) (rooted_positive _ last_rooted) (max_of a b) (rooted_positive _ first_rooted) in
      record {
        first = under_top a (max_of a b) i first_rooted (max-left a b (rooted_positive a i)) first;
        second = under_top b (max_of a b) j first_rooted (floor_least b (rooted_positive b j) a (rooted_positive a i)) first;
        third = under_top c (max_of c d) k last_rooted (max-left c d (rooted_positive c k)) last;
        fourth = under_top d (max_of c d) l last_rooted (floor_least d (rooted_positive d l) c (rooted_positive c k)) last;
        one = max_keeps One (max_of a b) (max_of c d) (max_keeps One a b (inl (whole a i)) (inr (inl (whole b j)))) (max_keeps One c d (inr (inr (inl (whole c k)))) (inr (inr (inr (whole d l)))));
      }

module _ (q : List Float) (f : T (fits binary32 (q at 0))) (g : T (fits binary32 (q at 1))) (h : T (fits binary32 (q at 2))) (i : T (fits binary32 (q at 3))) where
  module _ (u : all_usable q ≡ true) where
    four : Rooted (sqrt_of (q at 0)) × Rooted (sqrt_of (q at 1)) × Rooted (sqrt_of (q at 2)) × Rooted (sqrt_of (q at 3))
    unfolding all_usable
    four =
        let each = all_four (usable (q at 0)) (usable (q at 1)) (usable (q at 2)) (usable (q at 3)) u in (
          rooted (q at 0) f (usable_positive (q at 0) each.0),
          rooted (q at 1) g (usable_positive (q at 1) each.1),
          rooted (q at 2) h (usable_positive (q at 2) each.2),
          rooted (q at 3) i (usable_positive (q at 3) each.3),
        )

    roots_positive : all_usable (roots_of q) ≡ true
    unfolding roots_of
    roots_positive = all_positive (roots_of q) (rooted_positive _ four.0) (rooted_positive _ four.1) (rooted_positive _ four.2) (rooted_positive _ four.3)

    largest_positive : T (positive (largest_of (roots_of q)))
    unfolding roots_of largest_by
    largest_positive = rooted_positive _ (top_rooted _ _ _ _ four.0 four.1 four.2 four.3)

    -- the scaled roots lie above 0 and up to 1, one of them at 1
    pub scaled_unit : Scaled (over_of (roots_of q) (largest_of (roots_of q)))
    unfolding over_of roots_of largest_by
    scaled_unit = scaled _ _ _ _ four.0 four.1 four.2 four.3

  -- the test of the roots fails at a quotient or not at all
  pub roots_usable : usable_roots q (roots_of q) (largest_of (roots_of q)) (over_of (roots_of q) (largest_of (roots_of q))) ≡ all_usable q
  unfolding usable_roots
  roots_usable = go (all_usable q) refl
    where
      go : (b : Bool) → all_usable q ≡ b → usable_roots q (roots_of q) (largest_of (roots_of q)) (over_of (roots_of q) (largest_of (roots_of q))) ≡ all_usable q
      go false u = rw u
      go true u =
          let s = scaled_unit u in
          rw (u, roots_positive u, positive-finite _ (largest_positive u), positive_over _ (largest_positive u), all_positive _ s.first.above s.second.above s.third.above s.fourth.above)

-- quotients are rounded, so the two above hold of those of any samples under any sigmas
pub quotients_fit : (x l : List Float)
    → T (fits binary32 (quotients_of x l at 0)) × T (fits binary32 (quotients_of x l at 1)) × T (fits binary32 (quotients_of x l at 2)) × T (fits binary32 (quotients_of x l at 3))
unfolding quotients_of
quotients_fit x l = (div-fits binary32 _ _, div-fits binary32 _ _, div-fits binary32 _ _, div-fits binary32 _ _)
