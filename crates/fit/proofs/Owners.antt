-- Where an inner level owns an extremum and no sample is a NaN, one inner sample lies beyond both outer ones. Assumes nothing.
use mathlib.Core.Path.{◌≡◌, refl, sym, ap, ◌∙◌, subst}
use mathlib.Core.Logic.{◌⊎◌, inl, inr}
use mathlib.Core.List.{List}
use mathlib.Core.Bool.{Bool, true, false, ◌&&◌, ◌||◌, false≢true}
use lib.Dec.{T}
use lib.Ieee.{Float, nan, inf, fin, lt, is_nan}
use Rattle.float.specs.Small.{finite, min_of, max_of}
use Rattle.float.proofs.Denied.{below_through, above_through, max-not_below_left, max-not_below_right, min-not-above-left, min-not-above-right, max_either, min_either}
use Rattle.fit.specs.Cubic.{◌at◌}
use Rattle.fit.specs.Owns.{owns_by, owns_of}
use Rattle.fit.specs.Owned.{outside, owned_by}

pub finite_number : (x : Float) → finite x ≡ true → is_nan x ≡ false
unfolding finite is_nan
finite_number nan h = absurd (false≢true h)
finite_number (inf s) h = refl
finite_number (fin s m e) h = refl

-- what is above the larger of two is above both, and what is below the smaller below both
above_both : (a b x : Float) → is_nan a ≡ false → is_nan b ≡ false → lt (max_of a b) x ≡ true → (lt a x && lt b x) ≡ true
above_both a b x n m h =
    let t : T (lt (max_of a b) x) = subst T (sym h) tt in
    rw (below_through (max_of a b) a x t (max-not_below_left a b) n, below_through (max_of a b) b x t (max-not_below_right a b) m)

below_both : (a b x : Float) → is_nan a ≡ false → is_nan b ≡ false → lt x (min_of a b) ≡ true → (lt x a && lt x b) ≡ true
below_both a b x n m h =
    let t : T (lt x (min_of a b)) = subst T (sym h) tt in
    rw (above_through (min_of a b) a x t (min-not-above-left a b) n, above_through (min_of a b) b x t (min-not-above-right a b) m)

or-true : (b : Bool) → (b || true) ≡ true
or-true true = refl
or-true false = refl

pub owner-outside : (l : List Float) (is_max : Bool) → is_nan (l at 0) ≡ false → is_nan (l at 3) ≡ false → owns_of l is_max ≡ true → owned_by l is_max ≡ true
unfolding owns_by owned_by
owner-outside l true n m h = go (max_either (l at 1) (l at 2))
  where
    go : (max_of (l at 1) (l at 2) ≡ l at 1) ⊎ (max_of (l at 1) (l at 2) ≡ l at 2) → (outside true (l at 1) (l at 0) (l at 3) || outside true (l at 2) (l at 0) (l at 3)) ≡ true
    go (inl e) = rw (above_both (l at 0) (l at 3) (l at 1) n m (ap (lt (max_of (l at 0) (l at 3))) (sym e) ∙ h))
    go (inr e) = rw (above_both (l at 0) (l at 3) (l at 2) n m (ap (lt (max_of (l at 0) (l at 3))) (sym e) ∙ h)) (or-true (outside true (l at 1) (l at 0) (l at 3)))
owner-outside l false n m h = go (min_either (l at 1) (l at 2))
  where
    go : (min_of (l at 1) (l at 2) ≡ l at 1) ⊎ (min_of (l at 1) (l at 2) ≡ l at 2) → (outside false (l at 1) (l at 0) (l at 3) || outside false (l at 2) (l at 0) (l at 3)) ≡ true
    go (inl e) = rw (below_both (l at 0) (l at 3) (l at 1) n m (ap (λ (y : Float). lt y (min_of (l at 0) (l at 3))) (sym e) ∙ h))
    go (inr e) = rw (below_both (l at 0) (l at 3) (l at 2) n m (ap (λ (y : Float). lt y (min_of (l at 0) (l at 3))) (sym e) ∙ h)) (or-true (outside false (l at 1) (l at 0) (l at 3)))
