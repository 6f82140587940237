-- The radii of a good set's kernels never fall from level to level, and each is 1 to 16. Assumes nothing.
use Prim.Native.Nat.{ℕ, zero, suc, ◌+◌, ◌-◌, ◌*◌, ◌/◌, ◌^◌, ◌≤◌, ◌<◌, min}
use native.Mathlib.Nat.{lt-div-mul-add, le_trans, le_of_eq, le_of_suc-le-suc, mul-pos, mul_right_comm, mul-le-mul_right, le_of_mul-le-mul_right, div-lt_iff_lt-mul, le-div_iff_mul-le, suc-mul, zero-mul}
use native.Mathlib.Omega.{arith}
use mathlib.Core.Path.{◌≡◌, refl, sym, ap, subst, ◌∙◌}
use mathlib.Core.Bool.{Bool, true, false, cond, false≢true}
use mathlib.Core.Logic.{◌⊎◌, ⊎_elim, inl, inr}
use mathlib.Core.List.{List}
use lib.IntN.{ℤ, pos, negsuc}
use lib.ListN.{get_or}
use lib.Dec.{T, eqb, ltb→lt, lt→ltb, eqb→eq, lit<, lit≤}
use lib.Ieee.{Float, nan, inf, fin, binary32, up, down, lt, le, is_nan, fits, round, odd, mul, div, of_bits}
use lib.Ieee.Fits.{up_pos, down_pos, sub-fits}
use lib.Ieee.Positive.{num, den, positive, le→cross, mul_mono, through}
use borrow.Author.Tests.{ltb-true, lt-ltb, le-ltb}
use Rattle.float.specs.Num.{◌⊖◌, ◌⊗◌, ◌⊘◌, f0, f2}
use Rattle.float.specs.Small.{max_of, finite}
use Rattle.float.specs.Sqrt.{sqrt_of}
use Rattle.float.proofs.Floats.{zero_is, lt_zero, zero_lt_zero}
use Rattle.float.proofs.Rises.{low, plain, Rise, cut, top, both, rise_of_le, round_plain, mul_plain, rise_sub, sqrt_positive, sqrt_mono, lt_cross, le_self, floor_positive, floor_least, floor_mono}
use Rattle.tables.specs.declared.Set.{Set}
use Rattle.tables.specs.Set.{good}
use Rattle.tables.proofs.SetLaws.{sigmas_rise, sigmas_positive, sigmas_finite}
use Rattle.kernels.specs.Kernel.{f½, f3, f0_1, epsilon, ceil_of, gaussian_of, base_of, left_of, kernel_to, kernels_of, kernel_of}
use Rattle.kernels.proofs.Ceil.{ceil_most}

-- ---- rounding up

div-least : (m d q : ℕ) → 0 < d → m ≤ q * d → (m + (d - 1)) / d ≤ q
div-least m d q p h = le_of_suc-le-suc ((div-lt_iff_lt-mul {k = d} {x = m + (d - 1)} {y = suc q} p).1 (omega (arith, suc-mul q d)))

div-enough : (m d : ℕ) → 0 < d → m ≤ (m + (d - 1)) / d * d
div-enough m d p = omega (arith, lt-div-mul-add {a = m + (d - 1)} {b = d} p)

ceil_rises : (m d n e : ℕ) → 0 < d → 0 < e → m * e ≤ n * d → (m + (d - 1)) / d ≤ (n + (e - 1)) / e
ceil_rises m d n e D E h =
    let q = (n + (e - 1)) / e in
    div-least m d q D (le_of_mul-le-mul_right {m = m} {n = q * d} {k = e} (le_trans h (le_trans (mul-le-mul_right d (div-enough n e E)) (le_of_eq (mul_right_comm q e d)))) E)

capped : (a b : ℕ) → a ≤ b → min a 16 ≤ min b 16
capped a b h = omega arith

-- of two positive numbers the larger is not rounded up to less
pub ceil_mono : (x y : Float) → T (positive x) → T (positive y) → T (le x y) → ceil_of x ≤ ceil_of y
unfolding ceil_of
ceil_mono nan y p q h = absurd p
ceil_mono (inf s) y p q h = absurd p
ceil_mono (fin true m e) y p q h = absurd p
ceil_mono (fin false m e) nan p q h = absurd q
ceil_mono (fin false m e) (inf t) p q h = absurd q
ceil_mono (fin false m e) (fin true n d) p q h = absurd q
ceil_mono (fin false m e) (fin false n d) p q h =
    capped _ _ (ceil_rises (m * up e) (down e) (n * up d) (down d) (down_pos e) (down_pos d) (le→cross (fin false m e) (fin false n d) p q h))

-- a positive number is rounded up to 1 or more
pub ceil_least : (x : Float) → T (positive x) → 1 ≤ ceil_of x
unfolding ceil_of
ceil_least nan p = absurd p
ceil_least (inf s) p = absurd p
ceil_least (fin true m e) p = absurd p
ceil_least (fin false m e) p =
    let least : 1 ≤ (m * up e + (down e - 1)) / down e = (le-div_iff_mul-le {k = down e} {x = 1} {y = m * up e + (down e - 1)} (down_pos e)).1 (omega (arith, mul-pos (ltb→lt 0 m p) (up_pos e))) in
    omega arith

-- ---- rounding up what rises

not-zero : (m : ℕ) → suc m ≡ 0 → ⊥
not-zero m e = omega arith

low_ceil : (x : Float) → T (low x) → ceil_of x ≡ 0
unfolding low ceil_of
low_ceil nan p = refl
low_ceil (inf true) p = refl
low_ceil (inf false) p = absurd p
low_ceil (fin true m e) p = refl
low_ceil (fin false zero e) p =
    let none : (0 * up e + (down e - 1)) / down e ≤ 0 = div-least (0 * up e) (down e) 0 (down_pos e) (omega (arith, zero-mul (up e), zero-mul (down e))) in
    omega arith
low_ceil (fin false (suc m) e) p = absurd (not-zero m (eqb→eq (suc m) 0 p))

top_ceil : ceil_of (inf false) ≡ 16
unfolding ceil_of
top_ceil = refl

rise_ceil : (x y : Float) → Rise x y → ceil_of x ≤ ceil_of y
rise_ceil x y (cut p) = let e = low_ceil x p in omega arith
rise_ceil x y top = let e = top_ceil in let m = ceil_most x in omega arith
rise_ceil x y (both p q h) = ceil_mono x y p q h

-- ---- what is left to blur

-- the root of a difference, not below 0.1
abbrev rooted : Float → Float
rooted d = max_of (sqrt_of (max_of d f0)) f0_1

-- the constants' values
tenth_is : f0_1 ≡ fin false 13421773 (negsuc 26)
unfolding of_bits odd
tenth_is = refl

tenth_positive : T (positive f0_1)
tenth_positive = rw tenth_is tt

epsilon-is : epsilon ≡ fin false 1 (negsuc 22)
unfolding of_bits odd
epsilon-is = refl

three_is : f3 ≡ fin false 3 (pos 0)
unfolding of_bits odd
three_is = refl

three_positive : T (positive f3)
three_positive = rw three_is tt

zero_under : (s : Bool) (e : ℤ) → lt (fin s zero e) (fin false 13421773 (negsuc 26)) ≡ true
unfolding lt
zero_under true e =
    let p : 0 < 13421773 * up (negsuc 26) * down e = mul-pos (mul-pos (lit< {m = 0} {n = 13421773} tt) (up_pos (negsuc 26))) (down_pos e) in
    lt-ltb 0 (0 * up e * down (negsuc 26) + 13421773 * up (negsuc 26) * down e) (rw (zero-mul (up e)) (omega arith))
zero_under false e =
    let p : 0 < 13421773 * up (negsuc 26) * down e = mul-pos (mul-pos (lit< {m = 0} {n = 13421773} tt) (up_pos (negsuc 26))) (down_pos e) in
    lt-ltb (0 * up e * down (negsuc 26)) (13421773 * up (negsuc 26) * down e) (rw (zero-mul (up e)) p)

-- a zero gives 0.1
zero_floor : (s : Bool) (e : ℤ) → max_of (sqrt_of (fin s zero e)) f0_1 ≡ f0_1
unfolding max_of sqrt_of is_nan
zero_floor s e = rw (tenth_is, zero_under s e)

low_rooted : (d : Float) → T (low d) → rooted d ≡ f0_1
unfolding low max_of is_nan lt
low_rooted nan p = rw zero_is (zero_floor false (pos 0))
low_rooted (inf true) p = rw zero_is (zero_floor false (pos 0))
low_rooted (inf false) p = absurd p
low_rooted (fin true zero e) p = rw (zero_lt_zero true e) (zero_floor true e)
low_rooted (fin true (suc m) e) p = rw (lt_zero true m e, zero_is) (zero_floor false (pos 0))
low_rooted (fin false zero e) p = rw (zero_lt_zero false e) (zero_floor false e)
low_rooted (fin false (suc m) e) p = absurd (not-zero m (eqb→eq (suc m) 0 p))

top_rooted : rooted (inf false) ≡ inf false
unfolding max_of is_nan sqrt_of lt
top_rooted = rw (zero_is, tenth_is)

positive_max : (d : Float) → T (positive d) → max_of d f0 ≡ d
unfolding max_of is_nan
positive_max nan p = absurd p
positive_max (inf s) p = absurd p
positive_max (fin true m e) p = absurd p
positive_max (fin false zero e) p = absurd p
positive_max (fin false (suc m) e) p = rw (lt_zero false m e)

positive_rooted : (d : Float) → T (positive d) → rooted d ≡ max_of (sqrt_of d) f0_1
positive_rooted d p = rw (positive_max d p)

-- ---- the radius

tenths_positive : T (positive (f3 ⊗ f0_1))
unfolding mul round
tenths_positive = rw (three_is, tenth_is) tt

picked : (t : Bool) (a b : List Float) (r : ℕ) → r ≤ 16 → (cond t (kernel_of 0 a) (kernel_of r b)).radius ≤ 16
picked true a b r h = omega arith
picked false a b r h = h

pub radius_most : (sigma : Float) → (gaussian_of sigma).radius ≤ 16
unfolding gaussian_of
radius_most sigma = picked (lt sigma epsilon) _ _ _ (ceil_most (f3 ⊗ sigma))

-- a sigma of 0.1 or more, or infinite
data Wide : Float → Type 0 where
  endless : Wide (inf false)
  some : {x : Float} → T (positive x) → T (le f0_1 x) → Wide x

epsilon-under : (x : Float) → T (positive x) → T (le (fin false 13421773 (negsuc 26)) x) → lt x (fin false 1 (negsuc 22)) ≡ false
epsilon-under x p h =
    lt_cross x (fin false 1 (negsuc 22)) p tt
    ∙ le-ltb _ _ (through 1 13421773 (num x) (2 ^ 23) (2 ^ 27) (den x) (lit< tt) (lit≤ tt) (le→cross (fin false 13421773 (negsuc 26)) x tt p h))

wide_radius : (x : Float) → Wide x → (gaussian_of x).radius ≡ ceil_of (f3 ⊗ x)
unfolding gaussian_of
wide_radius x endless = rw (epsilon-is, not-under)
  where
    not-under : lt (inf false) (fin false 1 (negsuc 22)) ≡ false
    not-under = unfold lt in refl
wide_radius x (some p h) = rw (epsilon-is, epsilon-under x p (rw tenth_is at h))

three_top : f3 ⊗ inf false ≡ inf false
unfolding mul
three_top = rw three_is

wide-least : (x : Float) → Wide x → 1 ≤ (gaussian_of x).radius
wide-least x endless = rw (wide_radius (inf false) endless, three_top, top_ceil) (omega arith)
wide-least x (some p h) =
    rw (wide_radius x (some p h))
    (le_trans (ceil_least (f3 ⊗ f0_1) tenths_positive)
    (rise_ceil _ _ (rise_of_le _ _ (mul_plain f3 f0_1 three_positive tenth_positive) (mul_plain f3 x three_positive p)
    (mul_mono binary32 f3 f3 f0_1 x three_positive three_positive tenth_positive p (le_self f3 three_positive) h))))

-- what a difference leaves to blur is wide
low_or_not : (d : Float) → T (low d) ⊎ ((d ≡ inf false) ⊎ T (positive d))
unfolding low
low_or_not nan = inl tt
low_or_not (inf true) = inl tt
low_or_not (inf false) = inr (inl refl)
low_or_not (fin true m e) = inl tt
low_or_not (fin false zero e) = inl tt
low_or_not (fin false (suc m) e) = inr (inr (lt→ltb 0 (suc m) (omega arith)))

tenth_wide : Wide f0_1
tenth_wide = some tenth_positive (le_self f0_1 tenth_positive)

positive_wide : (d : Float) → T (fits binary32 d) → T (positive d) → Wide (rooted d)
positive_wide d f p =
    rw (positive_rooted d p)
    (some (floor_positive f0_1 tenth_positive (sqrt_of d) (sqrt_positive d f p)) (floor_least f0_1 tenth_positive (sqrt_of d) (sqrt_positive d f p)))

rooted_wide : (d : Float) → T (fits binary32 d) → Wide (rooted d)
rooted_wide d f =
    ⊎_elim (λ p. rw (low_rooted d p) tenth_wide)
    (⊎_elim (λ e. subst Wide (sym (ap rooted e ∙ top_rooted)) endless) (λ p. positive_wide d f p))
    (low_or_not d)

tenth_radius : (gaussian_of f0_1).radius ≤ 1
tenth_radius = rw (wide_radius f0_1 tenth_wide) small
  where
    small : ceil_of (f3 ⊗ f0_1) ≤ 1
    small = unfold ceil_of in unfold mul in rw (three_is, tenth_is) (lit≤ tt)

radius_rises : (d d' : Float) → T (fits binary32 d) → T (fits binary32 d') → Rise d d' → (gaussian_of (rooted d)).radius ≤ (gaussian_of (rooted d')).radius
radius_rises d d' f g (cut p) = rw (low_rooted d p) (le_trans tenth_radius (wide-least (rooted d') (rooted_wide d' g)))
radius_rises d d' f g top =
    le_trans (radius_most (rooted d)) (le_of_eq (sym (ap (λ (x : Float). (gaussian_of x).radius) top_rooted ∙ wide_radius (inf false) endless ∙ ap ceil_of three_top ∙ top_ceil)))
radius_rises d d' f g (both p q h) =
    let r = sqrt_positive d f p in
    let r' = sqrt_positive d' g q in
    let w = floor_positive f0_1 tenth_positive (sqrt_of d) r in
    let w' = floor_positive f0_1 tenth_positive (sqrt_of d') r' in
    le_trans (le_of_eq (wide_radius (rooted d) (rooted_wide d f)))
    (le_trans
    (rw (positive_rooted d p, positive_rooted d' q)
    (rise_ceil _ _ (rise_of_le _ _ (mul_plain f3 _ three_positive w) (mul_plain f3 _ three_positive w')
    (mul_mono binary32 f3 f3 _ _ three_positive three_positive w w' (le_self f3 three_positive) (floor_mono f0_1 tenth_positive (sqrt_of d) (sqrt_of d') r r' (sqrt_mono d d' f g p q h))))))
    (le_of_eq (sym (wide_radius (rooted d') (rooted_wide d' g)))))

-- ---- the kernels of an octave

square_plain : (x : Float) → T (plain x) → T (plain (x ⊗ x))
unfolding plain mul
square_plain nan p = absurd p
square_plain (inf true) p = absurd p
square_plain (inf false) p = tt
square_plain (fin true m e) p = absurd p
square_plain (fin false m e) p = round_plain (m * up e * (m * up e)) (down e * down e)

two_is : f2 ≡ fin false 1 (pos 1)
unfolding of_bits odd
two_is = refl

half_plain : (x : Float) → T (positive x) → T (plain (x ⊘ f2))
half_plain x p = rw two_is (go x p)
  where
    go : (x : Float) → T (positive x) → T (plain (x ⊘ fin false 1 (pos 1)))
    go nan p = absurd p
    go (inf t) p = absurd p
    go (fin true m e) p = absurd p
    go (fin false m e) p = unfold div in round_plain (m * up e * down (pos 1)) (1 * up (pos 1) * down e)

base_plain : (octave : ℕ) (third : Float) → T (positive third) → T (plain (base_of octave third))
unfolding base_of
base_plain octave third p = go (eqb octave 0)
  where
    start : T (plain f½)
    start = unfold of_bits in unfold plain in tt

    go : (t : Bool) → T (plain (cond t f½ (third ⊘ f2)))
    go true = start
    go false = half_plain third p

positive_from : (x : Float) → lt f0 x ≡ true → finite x ≡ true → T (positive x)
unfolding lt finite
positive_from x h f = go x (rw zero_is at h) f
  where
    go : (x : Float) → lt (fin false 0 (pos 0)) x ≡ true → finite x ≡ true → T (positive x)
    go nan h f = absurd (false≢true f)
    go (inf t) h f = absurd (false≢true f)
    go (fin true m e) h f = absurd (false≢true h)
    go (fin false zero e) h f = let k = ltb-true (0 * up (pos 0) * down e) (0 * up e * down (pos 0)) h in let z : ⊥ = omega (arith, zero-mul (up e), zero-mul (down e)) in absurd z
    go (fin false (suc m) e) h f = lt→ltb 0 (suc m) (omega arith)

le_of_lt-float : (x y : Float) → lt x y ≡ true → T (le x y)
unfolding le
le_of_lt-float x y h = rw h tt

difference_fits : (base target : Float) → T (fits binary32 (target ⊗ target ⊖ base ⊗ base))
difference_fits base target = sub-fits binary32 _ _

-- each radius is 1 to 16, whatever the set is
pub radius_within : (octave : ℕ) (sigmas : List Float) (level : ℕ) → (1 ≤ (kernels_of octave sigmas level).radius) × ((kernels_of octave sigmas level).radius ≤ 16)
unfolding kernel_to left_of
radius_within octave sigmas level = (wide-least _ (rooted_wide _ (difference_fits _ _)), radius_most _)

-- With a good set the radii never fall from level to level.
pub radii_rise : (s : Set) → good s ≡ true → (octave level : ℕ) → level < 3
    → (kernels_of octave s.sigmas level).radius ≤ (kernels_of octave s.sigmas (suc level)).radius
unfolding kernel_to left_of
radii_rise s g octave level h =
    let third = positive_from (get_or s.sigmas 2 nan) (sigmas_positive s g 2 (omega arith)) (sigmas_finite s g 2 (omega arith)) in
    let p = positive_from (get_or s.sigmas level nan) (sigmas_positive s g level (omega arith)) (sigmas_finite s g level (omega arith)) in
    let q = positive_from (get_or s.sigmas (suc level) nan) (sigmas_positive s g (suc level) (omega arith)) (sigmas_finite s g (suc level) (omega arith)) in
    let r = le_of_lt-float _ _ (sigmas_rise s g level h) in
    radius_rises _ _ (difference_fits _ _) (difference_fits _ _)
    (rise_sub _ _ _ (mul_plain _ _ p p) (mul_plain _ _ q q) (square_plain _ (base_plain octave _ third)) (mul_mono binary32 _ _ _ _ p q p q r r))
