-- Told the root, the line's point is the stationary point. Assumes nothing.
use Rattle.std.specs.Prelude.{Some}
use Prim.Native.Nat.{ℕ, ◌+◌, ◌*◌, ◌<◌}
use native.Mathlib.Omega.{arith}
use mathlib.Core.Path.{◌≡◌, refl, sym, ap, ◌∙◌}
use mathlib.Core.Bool.{Bool, true, false, true≢false, false≢true, cond, not, ◌&&◌, and-false, and-true}
use mathlib.Core.List.{List}
use lib.IntN.{ℤ}
use lib.Dec.{T}
use lib.ListN.{length, set}
use borrow.Author.Tests.{le-ltb}
use lib.Ieee.{Float, nan, inf, fin, lt, neg, is_nan, of_bits, odd, binary32, fits, up, down}
use Rattle.float.specs.Small.{abs_of}
use Rattle.float.specs.Num.{◌⊗◌, f0, f1, f1e_6}
use Rattle.float.proofs.Signs.{lt-neg}
use Rattle.float.proofs.One.{one_times, minus_one_times}
use Rattle.float.proofs.Denied.{lt_self}
use Rattle.fit.specs.Cubic.{◌at◌, horner_of, discriminant_of}
use Rattle.fit.specs.Band.{sign_of, stationary_of}
use Rattle.fit.proofs.Agree.{signs}
use Rattle.columns.specs.Coef.{under_root}
use Rattle.columns.specs.Known.{Known, found, absent, unknown}
use Rattle.columns.specs.Stat.{turn_at, point_of, height_of, Told, point, nowhere, cubic_in, Points}
use Rattle.columns.proofs.LineLaws.{written_none, written-more}

-- ---- a quadratic opens the way of the polarity

-- what is not above 0 in sign and more than 1e-6 in size is below it
turns : (x : Float) → lt f0 x ≡ false → lt f1e_6 (abs_of x) ≡ (lt f1e_6 (abs_of x) && lt x f0)
turns x h = go (lt f1e_6 (abs_of x)) refl
  where
    go : (t : Bool) → lt f1e_6 (abs_of x) ≡ t → t ≡ (t && lt x f0)
    go false e = refl
    go true e = sym (signs x e ∙ ap not h)

turns_not : (x : Float) → lt f0 x ≡ false → false ≡ (lt f1e_6 (abs_of x) && not (lt x f0))
turns_not x h = go (lt f1e_6 (abs_of x)) refl
  where
    go : (t : Bool) → lt f1e_6 (abs_of x) ≡ t → false ≡ (t && not (lt x f0))
    go false e = refl
    go true e = sym (ap not (signs x e ∙ ap not h))

plus-not_below : (m : ℕ) (e : ℤ) → lt (fin false m e) f0 ≡ false
unfolding lt of_bits odd
plus-not_below m e = le-ltb (m * up e * 1) (0 * 1 * down e) (omega arith)

minus_not-above : (m : ℕ) (e : ℤ) → lt f0 (fin true m e) ≡ false
unfolding lt of_bits odd
minus_not-above m e = refl

minus_same : (m : ℕ) (e : ℤ) → lt (fin true m e) (neg f1e_6) ≡ lt f1e_6 (abs_of (fin true m e))
unfolding lt neg abs_of of_bits odd
minus_same m e = refl

plus_none : (m : ℕ) (e : ℤ) → lt (fin false m e) (neg f1e_6) ≡ false
unfolding lt neg of_bits odd
plus_none m e = refl

minus_none : (m : ℕ) (e : ℤ) → lt f1e_6 (fin true m e) ≡ false
unfolding lt of_bits odd
minus_none m e = refl

plus-same : (m : ℕ) (e : ℤ) → lt f1e_6 (fin false m e) ≡ lt f1e_6 (abs_of (fin false m e))
unfolding abs_of
plus-same m e = refl

opens_high : (x : Float) → lt x (neg f1e_6) ≡ (lt f1e_6 (abs_of x) && lt x f0)
opens_high nan = unfold lt neg abs_of of_bits odd in refl
opens_high (inf true) = unfold lt neg abs_of of_bits odd in refl
opens_high (inf false) = unfold lt neg abs_of of_bits odd in refl
opens_high (fin true m e) = minus_same m e ∙ turns (fin true m e) (minus_not-above m e)
opens_high (fin false m e) = plus_none m e ∙ rw (plus-not_below m e) (sym (and-false (lt f1e_6 (abs_of (fin false m e)))))

opens_low : (x : Float) → lt f1e_6 x ≡ (lt f1e_6 (abs_of x) && not (lt x f0))
opens_low nan = unfold lt neg abs_of of_bits odd in refl
opens_low (inf true) = unfold lt neg abs_of of_bits odd in refl
opens_low (inf false) = unfold lt neg abs_of of_bits odd in refl
opens_low (fin true m e) = minus_none m e ∙ turns_not (fin true m e) (minus_not-above m e)
opens_low (fin false m e) = plus-same m e ∙ rw (plus-not_below m e) (sym (and-true (lt f1e_6 (abs_of (fin false m e)))))

pub opens_is : (is_max : Bool) (b : Float) → T (fits binary32 b) → lt (sign_of is_max ⊗ b) (neg f1e_6) ≡ (lt f1e_6 (abs_of b) && cond is_max (lt b f0) (not (lt b f0)))
unfolding sign_of
opens_is true b f = rw (one_times b f) (opens_high b)
opens_is false b f = rw (minus_one_times b f) (lt-neg b f1e_6 ∙ opens_low b)

nan_is_nan : is_nan nan ≡ true
unfolding is_nan
nan_is_nan = refl

-- -1 is not above 0, and is not 0
minus_one-not-above : lt f0 (neg f1) ≡ false
unfolding lt neg of_bits odd
minus_one-not-above = refl

zero_not_minus : f0 ≡ neg f1 → ⊥
zero_not_minus e = false≢true (sym (lt_self f0) ∙ ap (λ (x : Float). lt x f0) e ∙ minus_one_below)
  where
    minus_one_below : lt (neg f1) f0 ≡ true
    minus_one_below = unfold lt neg of_bits odd in refl

-- ---- the point
module _ (k : List Float) (is_max : Bool) (held : T (fits binary32 (k at 1))) (root : Float) where
  abbrev told : Type 0
  told = Told k is_max (point_of (sign_of is_max) k root) (height_of (sign_of is_max) k root)

  cubic-told : lt f1e_6 (abs_of (k at 0)) ≡ true → Known root (discriminant_of k) → (root ≡ neg f1 → ⊥) → told
  unfolding point_of height_of turn_at stationary_of
  cubic-told c (found up above is) shut = point (rw (c, up, above, is)) (rw (c, above))
  cubic-told c (absent up is) shut = nowhere (rw (c, up)) (rw (c, is, lt_self f0))
  cubic-told c (unknown is) shut = absurd (shut is)

  quadratic_told : lt f1e_6 (abs_of (k at 0)) ≡ false → root ≡ f0 → told
  unfolding point_of height_of turn_at stationary_of
  quadratic_told c is = go (lt f1e_6 (abs_of (k at 1)) && cond is_max (lt (k at 1) f0) (not (lt (k at 1) f0))) refl
    where
      go : (t : Bool) → (lt f1e_6 (abs_of (k at 1)) && cond is_max (lt (k at 1) f0) (not (lt (k at 1) f0))) ≡ t → told
      go true e = point (rw (c, e, is, lt_self f0, opens_is is_max (k at 1) held, e)) (rw (c, is, lt_self f0, opens_is is_max (k at 1) held, e))
      go false e = nowhere (rw (c, e)) (rw (c, is, lt_self f0, opens_is is_max (k at 1) held, e))

  -- of an unknown root a number tells as much
  unknown-told : root ≡ neg f1 → is_nan (point_of (sign_of is_max) k root) ≡ false → told
  unfolding point_of height_of turn_at stationary_of is_nan
  unknown-told is number = go (lt f1e_6 (abs_of (k at 0))) refl (lt f1e_6 (abs_of (k at 1)) && cond is_max (lt (k at 1) f0) (not (lt (k at 1) f0))) refl
    where
      go : (c : Bool) → lt f1e_6 (abs_of (k at 0)) ≡ c → (t : Bool) → (lt f1e_6 (abs_of (k at 1)) && cond is_max (lt (k at 1) f0) (not (lt (k at 1) f0))) ≡ t → told
      go true c t e = absurd (true≢false (sym (rw (c, is, minus_one-not-above)) ∙ number))
      go false c true e = point (rw (c, e, is, minus_one-not-above, opens_is is_max (k at 1) held, e)) (rw (c, is, minus_one-not-above, opens_is is_max (k at 1) held, e))
      go false c false e = absurd (true≢false (sym (rw (c, is, minus_one-not-above, opens_is is_max (k at 1) held, e)) ∙ number))

  pub told-by : Known root (under_root k) → (root ≡ neg f1 → ⊥) → told
  unfolding under_root
  told-by = go (lt f1e_6 (abs_of (k at 0))) refl
    where
      flat : Known root f0 → (root ≡ neg f1 → ⊥) → root ≡ f0
      flat (found up above is) shut = absurd (true≢false (sym up ∙ lt_self f0))
      flat (absent up is) shut = is
      flat (unknown is) shut = absurd (shut is)

      go : (t : Bool) → lt f1e_6 (abs_of (k at 0)) ≡ t → Known root (cond t (discriminant_of k) f0) → (root ≡ neg f1 → ⊥) → told
      go true c known shut = cubic-told c known shut
      go false c known shut = quadratic_told c (flat known shut)

-- ---- a point that is a number is the stationary point, whatever the root
pub told-point : (k : List Float) (is_max : Bool) (root : Float) → T (fits binary32 (k at 1)) → Known root (under_root k) → is_nan (point_of (sign_of is_max) k root) ≡ false →
    (stationary_of k is_max ≡ Some (point_of (sign_of is_max) k root)) × (height_of (sign_of is_max) k root ≡ sign_of is_max ⊗ horner_of k (point_of (sign_of is_max) k root))
told-point k is_max root held known number = by-told (told_or known)
  where
    by-told : Told k is_max (point_of (sign_of is_max) k root) (height_of (sign_of is_max) k root) → (stationary_of k is_max ≡ Some (point_of (sign_of is_max) k root)) × (height_of (sign_of is_max) k root ≡ sign_of is_max ⊗ horner_of k (point_of (sign_of is_max) k root))
    by-told (point e h) = (e, h)
    by-told (nowhere e z) = absurd (true≢false (sym nan_is_nan ∙ ap is_nan (sym z) ∙ number))

    told_or : Known root (under_root k) → Told k is_max (point_of (sign_of is_max) k root) (height_of (sign_of is_max) k root)
    told_or (found over above is) = told-by k is_max held root (found over above is) (λ e. true≢false (sym above ∙ ap (lt f0) e ∙ minus_one-not-above))
    told_or (absent over is) = told-by k is_max held root (absent over is) (λ e. zero_not_minus (sym is ∙ e))
    told_or (unknown is) = unknown-told k is_max held root is number

-- ---- a turn of the loop
module _ (sign : Float) (a b c d r : List Float) (z off : ℕ) (p v : List Float) where
  pub points_none : Points sign a b c d r z off 0 p v p v
  points_none = record { point = written_none nan p off _; height = written_none nan v off _ }

  pub points-more : (i : ℕ) (x y : Float) {p₁ v₁ : List Float} → Points sign a b c d r z off i p v p₁ v₁ → off + i < length p → off + i < length v →
      x ≡ point_of sign (cubic_in a b c d (z + i)) (r at i) → y ≡ height_of sign (cubic_in a b c d (z + i)) (r at i) → Points sign a b c d r z off (i + 1) p v (set p₁ (off + i) x) (set v₁ (off + i) y)
  points-more i x y w lp lv e f = record { point = written-more nan _ x w.point lp refl e; height = written-more nan _ y w.height lv refl f }
