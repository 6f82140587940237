-- Once the line is usable, the energies and their quotient are. Assumes nothing.
use Prim.Native.Nat.{ℕ, suc, ◌+◌, ◌-◌, ◌*◌, ◌/◌, ◌^◌, ◌≤◌, ◌<◌, suc-le-suc}
use native.Mathlib.Nat.{le_trans, le_of_eq, lt_irrefl, mul-one, one-mul, mul_comm, mul-le-mul_right}
use native.Mathlib.Omega.{arith}
use mathlib.Core.Path.{◌≡◌, refl, sym, ap, ◌∙◌, subst}
use mathlib.Core.List.{List}
use mathlib.Core.Bool.{Bool, true, false, not, ◌&&◌}
use mathlib.Core.Logic.{inl, inr}
use lib.IntN.{pos, negsuc}
use lib.Dec.{T, lit≤}
use lib.Count.{count_trailing_zeros}
use lib.Ieee.{Float, nan, inf, fin, le, mul, round, size, span, climb, units, odd, of_bits, of_fields}
use lib.Ieee.Positive.{num, den, positive}
use Rattle.float.specs.Num.{◌⊕◌, ◌⊖◌, ◌⊗◌, ◌⊘◌, f0, f1, f¼}
use Rattle.float.specs.Small.{finite}
use Rattle.float.proofs.Bools.{says, both, all_four}
use Rattle.float.proofs.Finite.{sum-finite}
use Rattle.float.proofs.Order.{up_to}
use Rattle.fit.specs.Cubic.{◌at◌}
use Rattle.profile.specs.Four.{each, pairs, squares_of, less_of, products_of, sum_of, mean_of, spread_of, dot_of, energy_of}
use Rattle.profile.specs.Profile.{residual_of, usable_line, usable_energy}
use Rattle.unreached.specs.Unit.{Part, Scaled}
use Rattle.unreached.proofs.Bounds.{Most, plus, Under, Least, Binade, plus-finite, most_mono, add_most, sub-most, mul_most, div_most, square_plus, add-plus, div-plus, add_back, square_back, least_or_under, add_binade, plus-not_below, least_above, divisor}

-- ---- four at a time

record Each (P : Float → Type 0) (v : List Float) : Type 0 where
  first : P (v at 0)
  second : P (v at 1)
  third : P (v at 2)
  fourth : P (v at 3)

each_of : (P Q : Float → Type 0) (f : Float → Float) → ((x : Float) → P x → Q (f x)) → (v : List Float) → Each P v → Each Q (each f v)
each_of P Q f g v p = record { first = g (v at 0) p.first; second = g (v at 1) p.second; third = g (v at 2) p.third; fourth = g (v at 3) p.fourth }

pairs_of : (P R Q : Float → Type 0) (f : Float → Float → Float) → ((x y : Float) → P x → R y → Q (f x y)) → (v w : List Float) → Each P v → Each R w → Each Q (pairs f v w)
pairs_of P R Q f g v w p r =
    record {
      first = g (v at 0) (w at 0) p.first r.first;
      second = g (v at 1) (w at 1) p.second r.second;
      third = g (v at 2) (w at 2) p.third r.third;
      fourth = g (v at 3) (w at 3) p.fourth r.fourth;
    }

-- a number without a sign
abbrev Plus : Float → Type 0
Plus x = T (plus x)

-- ---- the sum of four

sum-most : (j : ℕ) (v : List Float) → suc (suc (suc j)) ≤ 276 → Each (Most j) v → Most (suc (suc (suc j))) (sum_of v)
unfolding sum_of
sum-most j v J p =
    add_most (suc (suc j)) (v at 0 ⊕ v at 1 ⊕ v at 2) (v at 3) J
    (add_most (suc j) (v at 0 ⊕ v at 1) (v at 2) (omega arith) (add_most j (v at 0) (v at 1) (omega arith) p.first p.second) (most_mono j (suc j) (v at 2) (omega arith) p.third))
    (most_mono j (suc (suc j)) (v at 3) (omega arith) p.fourth)

-- the sums on the way to a finite one
record Sums (v : List Float) : Type 0 where
  two : Plus (v at 0 ⊕ v at 1)
  three : Plus (v at 0 ⊕ v at 1 ⊕ v at 2)
  all : Plus (v at 0 ⊕ v at 1 ⊕ v at 2 ⊕ v at 3)

sums : (v : List Float) → Each Plus v → finite (sum_of v) ≡ true → Sums v
unfolding sum_of
sums v p f =
    let f3 = (sum-finite (v at 0 ⊕ v at 1 ⊕ v at 2) (v at 3) f).0 in
    let f2 = (sum-finite (v at 0 ⊕ v at 1) (v at 2) f3).0 in
    let p2 = add-plus (v at 0) (v at 1) p.first p.second f2 in
    let p3 = add-plus (v at 0 ⊕ v at 1) (v at 2) p2 p.third f3 in
    record { two = p2; three = p3; all = add-plus (v at 0 ⊕ v at 1 ⊕ v at 2) (v at 3) p3 p.fourth f }

sum-plus : (v : List Float) → Each Plus v → finite (sum_of v) ≡ true → Plus (sum_of v)
unfolding sum_of
sum-plus v p f = (sums v p f).all

-- what is below a power of two in sum is below it in each
sum_back : (j : ℕ) (v : List Float) → j ≤ 277 → Each Plus v → Under j (sum_of v) → Each (Under j) v
unfolding sum_of
sum_back j v J p u =
    let s = sums v p (plus-finite (sum_of v) u.plus) in
    let a = add_back j (v at 0 ⊕ v at 1 ⊕ v at 2) (v at 3) J s.three p.fourth u in
    let b = add_back j (v at 0 ⊕ v at 1) (v at 2) J s.two p.third a.0 in
    let c = add_back j (v at 0) (v at 1) J p.first p.second b.0 in
    record { first = c.0; second = c.1; third = b.1; fourth = a.1 }

sum_binade : (v : List Float) → Each Plus v → finite (sum_of v) ≡ true → 0 < num (sum_of v) → Binade (sum_of v)
unfolding sum_of
sum_binade v p f some = add_binade (v at 0 ⊕ v at 1 ⊕ v at 2) (v at 3) (sums v p f).three p.fourth f some

-- ---- the energy of four

energy_most : (j k : ℕ) (v : List Float) → suc (suc (suc k)) ≤ 276 → j + j ≤ k + 149 → Each (Most j) v → Most (suc (suc (suc k))) (energy_of v)
unfolding energy_of squares_of
energy_most j k v K h p = sum-most k (squares_of v) K (each_of (Most j) (Most k) (λ x. x ⊗ x) (λ x q. mul_most j j k x x (omega arith) h q q) v p)

squares_plus : (v : List Float) → finite (energy_of v) ≡ true → Each Plus (squares_of v)
unfolding energy_of squares_of sum_of
squares_plus v f =
    let a = sum-finite (v at 0 ⊗ v at 0 ⊕ v at 1 ⊗ v at 1 ⊕ v at 2 ⊗ v at 2) (v at 3 ⊗ v at 3) f in
    let b = sum-finite (v at 0 ⊗ v at 0 ⊕ v at 1 ⊗ v at 1) (v at 2 ⊗ v at 2) a.0 in
    let c = sum-finite (v at 0 ⊗ v at 0) (v at 1 ⊗ v at 1) b.0 in
    record { first = square_plus (v at 0) c.0; second = square_plus (v at 1) c.1; third = square_plus (v at 2) b.1; fourth = square_plus (v at 3) a.1 }

energy_plus : (v : List Float) → finite (energy_of v) ≡ true → Plus (energy_of v)
unfolding energy_of
energy_plus v f = sum-plus (squares_of v) (squares_plus v f) f

energy_binade : (v : List Float) → finite (energy_of v) ≡ true → 0 < num (energy_of v) → Binade (energy_of v)
unfolding energy_of
energy_binade v f some = sum_binade (squares_of v) (squares_plus v f) f some

-- each is below the root of what the energy is below
energy_back : (j : ℕ) (v : List Float) → j ≤ 277 → Under j (energy_of v) → Each (Under j) (squares_of v)
unfolding energy_of
energy_back j v J u = sum_back j (squares_of v) J (squares_plus v (plus-finite (energy_of v) u.plus)) u

roots_back : (j h : ℕ) (v : List Float) → j ≤ 277 → j + 149 ≤ h + h → Each (Under j) (squares_of v) → Each (Most h) v
unfolding squares_of
roots_back j h v J H p =
    let root : (x : Float) → Under j (x ⊗ x) → Most h x = λ x u. square_back j h x J H u in
    record { first = root (v at 0) p.first; second = root (v at 1) p.second; third = root (v at 2) p.third; fourth = root (v at 3) p.fourth }

-- ---- the residual of a line that rises

-- the slope of w over v
abbrev slope_of : List Float → List Float → Float
slope_of v w = dot_of v w ⊘ energy_of v

-- twice the half of an exponent
half_low : (k : ℕ) → suc k + 149 ≤ (k + 151) / 2 + (k + 151) / 2
half_low k = omega arith

half_high : (k : ℕ) → (k + 151) / 2 + (k + 151) / 2 ≤ k + 151
half_high k = omega arith

module _ (v w : List Float) (sizes : Each (Most 151) w) where
  dot_most : (h : ℕ) → h + 5 ≤ 276 → Each (Most h) v → Most (suc (suc (suc (h + 2)))) (dot_of v w)
  unfolding dot_of products_of
  dot_most h H p =
      sum-most (h + 2) (products_of v w) (omega arith)
      (pairs_of (Most h) (Most 151) (Most (h + 2)) (λ x y. x ⊗ y) (λ x y a b. mul_most h 151 (h + 2) x y (omega arith) (omega arith) a b) v w p sizes)

  -- the energy is 2 ^ k at least, and each of v is 2 ^ h at most
  residual_at : (k h : ℕ) → k ≤ 276 → suc k + 149 ≤ h + h → h + h ≤ k + 151 → Least k (energy_of v) → Each (Most h) v → Each (Most 157) (residual_of w (slope_of v w) v)
  unfolding residual_of
  residual_at k h K low high l p =
      let steep : Most (h + 154 - k) (slope_of v w) = div_most (suc (suc (suc (h + 2)))) k (h + 154 - k) (dot_of v w) (energy_of v) (omega arith) (omega arith) (dot_most h (omega arith) p) l in
      pairs_of (Most 151) (Most h) (Most 157) (λ y x. y ⊖ slope_of v w ⊗ x)
      (λ y x a b. sub-most 156 y (slope_of v w ⊗ x) (lit≤ tt) (most_mono 151 156 y (lit≤ tt) a) (mul_most (h + 154 - k) h 156 (slope_of v w) x (lit≤ tt) (omega arith) steep b))
      w v sizes p

  residual_most : finite (slope_of v w) ≡ true → le (slope_of v w) f0 ≡ false → Most 168 (energy_of (residual_of w (slope_of v w) v))
  residual_most f rising =
      let d = divisor (dot_of v w) (energy_of v) f rising in
      let b = energy_binade v d.0 d.1 in
      let k = b.power in
      let h = (k + 151) / 2 in
      let K : suc k ≤ 277 = suc-le-suc b.fine in
      energy_most 157 165 (residual_of w (slope_of v w) v) (lit≤ tt) (lit≤ tt)
      (residual_at k h b.fine (half_low k) (half_high k) b.least (roots_back (suc k) h v K (half_low k) (energy_back (suc k) v K b.under)))

-- ---- four numbers above 0 and up to 1, one of them 1

one-is : f1 ≡ fin false 1 (pos 0)
unfolding of_bits of_fields odd count_trailing_zeros
one-is = refl

quarter_is : f¼ ≡ fin false 1 (negsuc 1)
unfolding of_bits of_fields odd count_trailing_zeros
quarter_is = refl

quarter_most : Most 147 f¼
quarter_most = subst (λ (z : Float). Most 147 z) (sym quarter_is) (record { number = unfold finite in refl; most = lit≤ tt })

part_most : (x : Float) → Part x → Most 149 x
part_most x p =
    let sign = above-plus x p.above in
    let low : T (le f0 x) = says (le f0 x) (plus-not_below x sign) in
    let high : T (le x (fin false 1 (pos 0))) = subst (λ (z : Float). T (le x z)) one-is p.most in
    record { number = plus-finite x sign; most = scale (num x) (den x) (2 ^ 149) (up_to x (fin false 1 (pos 0)) 1 1 (refl, refl) low high) }
  where
    above-plus : (x : Float) → T (positive x) → Plus x
    above-plus nan p = absurd p
    above-plus (inf s) p = absurd p
    above-plus (fin true m e) p = absurd p
    above-plus (fin false m e) p = tt

    scale : (a d U : ℕ) → a * 1 ≤ 1 * d → a * U ≤ U * d
    scale a d U h = le_trans (mul-le-mul_right U (le_trans (le_of_eq (sym (mul-one a))) (le_trans h (le_of_eq (one-mul d))))) (le_of_eq (mul_comm d U))

parts_most : (z : List Float) → Scaled z → Each (Most 149) z
parts_most z s = record { first = part_most (z at 0) s.first; second = part_most (z at 1) s.second; third = part_most (z at 2) s.third; fourth = part_most (z at 3) s.fourth }

spread_most : (z : List Float) → Scaled z → Each (Most 151) (spread_of z)
unfolding spread_of less_of mean_of
spread_most z s =
    let p = parts_most z s in
    let mean : Most 150 (sum_of z ⊗ f¼) = mul_most 152 147 150 (sum_of z) f¼ (lit≤ tt) (lit≤ tt) (sum-most 149 z (lit≤ tt) p) quarter_most in
    each_of (Most 149) (Most 151) (λ x. x ⊖ mean_of z) (λ x q. sub-most 150 x (mean_of z) (lit≤ tt) (most_mono 149 150 x (lit≤ tt) q) mean) z p

-- the square of 1 is not below 1
one_square : f1 ⊗ f1 ≡ fin false 1 (pos 0)
unfolding of_bits of_fields odd count_trailing_zeros mul round size span climb units
one_square = refl

one-reached : (x : Float) → x ≡ f1 → Under 149 (x ⊗ x) → ⊥
one-reached x e u = lt_irrefl (2 ^ 149) (subst (λ (z : Float). Under 149 z) (ap (λ (z : Float). z ⊗ z) e ∙ one_square) u).under

not-under-one : (z : List Float) → Scaled z → Each (Under 149) (squares_of z) → ⊥
unfolding squares_of
not-under-one z s u = elim s.one [
  | inl e ↦ one-reached (z at 0) e u.first
  | inr (inl e) ↦ one-reached (z at 1) e u.second
  | inr (inr (inl e)) ↦ one-reached (z at 2) e u.third
  | inr (inr (inr e)) ↦ one-reached (z at 3) e u.fourth
]

whole-most : (z : List Float) → Scaled z → Most 152 (energy_of z)
whole-most z s = energy_most 149 149 z (lit≤ tt) (lit≤ tt) (parts_most z s)

whole-least : (z : List Float) → Scaled z → Least 149 (energy_of z)
whole-least z s = elim (least_or_under 149 (energy_of z) (energy_plus z (whole-most z s).number)) [
  | inl l ↦ l
  | inr u ↦ absurd (not-under-one z s (energy_back 149 z (lit≤ tt) u))
]

-- ---- the energies

energies : (residual whole : Float) → Most 168 residual → Plus residual → finite whole ≡ true → Least 149 whole → usable_energy residual whole ≡ true
unfolding usable_energy
energies residual whole r p f l =
    let quotient = div_most 168 149 168 residual whole (lit≤ tt) (lit≤ tt) r l in
    rw (r.number, f, least_above 149 whole l, quotient.number, plus-not_below (residual ⊘ whole) (div-plus residual whole p l.plus quotient.number))

line_rises : (mean numerator slope intercept : Float) → usable_line mean numerator slope intercept ≡ true → (finite slope ≡ true) × (le slope f0 ≡ false)
unfolding usable_line
line_rises mean numerator slope intercept h =
    let a = both (finite mean && finite numerator && finite slope && finite intercept && not (le slope f0)) (not (le intercept f0)) h in
    let b = both (finite mean && finite numerator && finite slope && finite intercept) (not (le slope f0)) a.0 in
    ((all_four (finite mean) (finite numerator) (finite slope) (finite intercept) b.0).2, not-true (le slope f0) b.1)
  where
    not-true : (b : Bool) → not b ≡ true → b ≡ false
    not-true true e = sym e
    not-true false e = refl

-- once the line is usable, the energies and their quotient are
pub energies_usable : (x z : List Float) → Scaled z
    → usable_line (mean_of z) (dot_of (spread_of x) (spread_of z)) (dot_of (spread_of x) (spread_of z) ⊘ energy_of (spread_of x)) (mean_of z ⊖ dot_of (spread_of x) (spread_of z) ⊘ energy_of (spread_of x) ⊗ mean_of x) ≡ true
    → usable_energy (energy_of (residual_of (spread_of z) (dot_of (spread_of x) (spread_of z) ⊘ energy_of (spread_of x)) (spread_of x))) (energy_of z) ≡ true
energies_usable x z s h =
    let dx = spread_of x in
    let dy = spread_of z in
    let left = residual_of dy (slope_of dx dy) dx in
    let rises = line_rises (mean_of z) (dot_of dx dy) (slope_of dx dy) (mean_of z ⊖ slope_of dx dy ⊗ mean_of x) h in
    let most = residual_most dx dy (spread_most z s) rises.0 rises.1 in
    energies (energy_of left) (energy_of z) most (energy_plus left most.number) (whole-most z s).number (whole-least z s)
