-- Whichever zero max gives at two zeros, the corrected sigma is the same: only the profile statistic takes a maximum. Assumes nothing.
use mathlib.Core.Path.{◌≡◌}
use mathlib.Core.List.{List}
use mathlib.Core.Bool.{Bool}
use lib.Ieee.{Float}
use Rattle.tables.specs.declared.Set.{Set}
use Rattle.fit.specs.Prims.{Prims, Allowed, ours}
use Rattle.profile.proofs.ZeroSign.{statistic-same}
use Rattle.size.specs.Correct.{blend_beta_by, corrected_by, correct_by}

module _ (p : Prims) (allowed : Allowed p) where
  pub corrected-same : (s : Set) (l : List Float) (anchor : Float) (is_max : Bool) → corrected_by p s l anchor is_max ≡ corrected_by ours s l anchor is_max
  unfolding corrected_by blend_beta_by
  corrected-same s l anchor is_max = rw (statistic-same p allowed s.sigmas l)

  pub correction_same : (s : Set) (l : List Float) (sigma : Float) (is_max : Bool) → correct_by p s l sigma is_max ≡ correct_by ours s l sigma is_max
  unfolding correct_by
  correction_same s l sigma is_max = rw (corrected-same s l sigma is_max)
