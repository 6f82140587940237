-- A value that a cubic reaches in a band, at its stationary point or at an end, is not beaten by what is at most that value. Assumes nothing.
use Rattle.std.specs.Prelude.{Option, Some, None}
use mathlib.Core.Path.{◌≡◌, sym, ap, ◌∙◌}
use mathlib.Core.List.{List}
use mathlib.Core.Bool.{Bool, true, false, cond, ◌&&◌}
use lib.Dec.{T}
use lib.Ieee.{Float, nan, lt, le, neg, is_nan, binary32, fits}
use lib.Ieee.Fits.{add-fits, mul-fits, cond-fits}
use Rattle.float.specs.Small.{max_of}
use Rattle.float.specs.Num.{◌⊗◌}
use Rattle.float.proofs.Order.{lt-nan}
use Rattle.float.proofs.Signs.{neg-neg, lt-neg}
use Rattle.float.proofs.One.{one_times, minus_one_times}
use Rattle.float.proofs.Denied.{le-number, max-reaches-left, max-reaches-right, max_keeps_left, max-number-left, max-number-right, max-fits}
use Rattle.fit.specs.Cubic.{horner_of}
use Rattle.fit.specs.Prims.{ours}
use Rattle.fit.specs.Band.{finite_cubic, sign_of, stationary_of, better_by, extreme_by, extreme_of}

-- the peak strictly beats the extreme, for a maximum or a minimum
abbrev pub beyond : Bool → Float → Float → Bool
beyond is_max extreme peak = cond is_max (lt extreme peak) (lt peak extreme)

-- ---- the sign taken off
unsigned : (is_max : Bool) (x peak : Float) → T (fits binary32 x) → T (fits binary32 peak) → beyond is_max (sign_of is_max ⊗ x) peak ≡ lt x (sign_of is_max ⊗ peak)
unfolding sign_of
unsigned true x peak f g = rw (one_times x f, one_times peak g)
unsigned false x peak f g = rw (minus_one_times x f, minus_one_times peak g) (ap (λ (y : Float). lt y (neg x)) (sym (neg-neg peak)) ∙ lt-neg (neg peak) x)

nan_beaten_by-none : (is_max : Bool) (peak : Float) → beyond is_max nan peak ≡ false
nan_beaten_by-none true peak = (lt-nan peak).1
nan_beaten_by-none false peak = (lt-nan peak).0

-- ---- the better of the ends and the stationary point
module _ (k : List Float) (sign low high ends : Float) where
  better-fits : (point : Option Float) → T (fits binary32 ends) → T (fits binary32 (better_by ours k sign low high ends point))
  unfolding better_by
  better-fits (Some s) f = cond-fits binary32 (lt low s && lt s high) _ ends (max-fits ends _ f (mul-fits binary32 sign (horner_of k s))) f
  better-fits None f = f

  better_keeps : (point : Option Float) (p : Float) → is_nan ends ≡ false → lt ends p ≡ false → lt (better_by ours k sign low high ends point) p ≡ false
  unfolding better_by
  better_keeps None p n h = h
  better_keeps (Some s) p n h = go (lt low s && lt s high)
    where
      go : (t : Bool) → lt (cond t (max_of ends (sign ⊗ horner_of k s)) ends) p ≡ false
      go true = max_keeps_left ends _ p n h
      go false = h

  better-reaches : (s p : Float) → lt low s ≡ true → lt s high ≡ true → T (le p (sign ⊗ horner_of k s)) → lt (better_by ours k sign low high ends (Some s)) p ≡ false
  unfolding better_by
  better-reaches s p a b h = rw (a, b) (max-reaches-right ends (sign ⊗ horner_of k s) p h)

module _ (k : List Float) (low high peak : Float) (is_max : Bool) (held : T (fits binary32 peak)) where
  abbrev ends : Float
  ends = max_of (sign_of is_max ⊗ horner_of k low) (sign_of is_max ⊗ horner_of k high)

  ends_fit : T (fits binary32 ends)
  ends_fit = max-fits _ _ (mul-fits binary32 (sign_of is_max) (horner_of k low)) (mul-fits binary32 (sign_of is_max) (horner_of k high))

  abbrev better : Float
  better = better_by ours k (sign_of is_max) low high ends (stationary_of k is_max)

  extreme_loses : lt better (sign_of is_max ⊗ peak) ≡ false → beyond is_max (extreme_of k low high is_max) peak ≡ false
  unfolding extreme_by
  extreme_loses h = go (finite_cubic k)
    where
      go : (t : Bool) → beyond is_max (cond t (sign_of is_max ⊗ better) nan) peak ≡ false
      go true = unsigned is_max better peak (better-fits k (sign_of is_max) low high ends (stationary_of k is_max) ends_fit) held ∙ h
      go false = nan_beaten_by-none is_max peak

  -- a stationary point inside the band
  pub stationary_reaches : (s : Float) → stationary_of k is_max ≡ Some s → lt low s ≡ true → lt s high ≡ true →
      T (le (sign_of is_max ⊗ peak) (sign_of is_max ⊗ horner_of k s)) → beyond is_max (extreme_of k low high is_max) peak ≡ false
  stationary_reaches s e a b h = extreme_loses (rw e (better-reaches k (sign_of is_max) low high ends s _ a b h))

  -- the low end
  pub low-reaches : T (le (sign_of is_max ⊗ peak) (sign_of is_max ⊗ horner_of k low)) → beyond is_max (extreme_of k low high is_max) peak ≡ false
  low-reaches h = extreme_loses (better_keeps k (sign_of is_max) low high ends (stationary_of k is_max) _ (max-number-left _ _ (le-number _ _ h)) (max-reaches-left _ _ _ h))

  -- the high end
  pub high-reaches : T (le (sign_of is_max ⊗ peak) (sign_of is_max ⊗ horner_of k high)) → beyond is_max (extreme_of k low high is_max) peak ≡ false
  high-reaches h = extreme_loses (better_keeps k (sign_of is_max) low high ends (stationary_of k is_max) _ (max-number-right _ _ (le-number _ _ h)) (max-reaches-right _ _ _ h))

-- a cubic's value is a float that fits
pub horner_fits : (k : List Float) (s : Float) → T (fits binary32 (horner_of k s))
unfolding horner_of
horner_fits k s = add-fits binary32 _ _
