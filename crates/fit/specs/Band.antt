-- The band of scales in which a candidate competes, and a cubic's extreme over it. Definitions only.
use Rattle.std.specs.Prelude.{List, Bool, cond, not, ◌&&◌, Float, Option, Some, None}
use Rattle.std.specs.Float.{nan}
use Rattle.std.specs.Float.Ieee.{lt, neg}
use Rattle.float.specs.Small.{finite, abs_of}
use Rattle.float.specs.Sqrt.{sqrt_of}
use Rattle.float.specs.Num.{◌⊖◌, ◌⊗◌, ◌⊘◌, f0, f1, f2, f6, f1e_6, sqrt2}
use Rattle.fit.specs.Cubic.{◌at◌, horner_of, discriminant_of}
use Rattle.fit.specs.Prims.{Prims, ours, band_cut, band_ends, turning_point}
use Rattle.fit.specs.declared.Band.{Band}

-- from sigma over the root of 2 to sigma times it, cut to the sigmas g
unfoldable pub band_by : Prims → List Float → Float → Band
band_by p g s = record { low = p.max_p band_cut (s ⊘ sqrt2) (g at 0); high = p.min_p band_cut (s ⊗ sqrt2) (g at 3) }

abbrev pub band_of : List Float → Float → Band
band_of = band_by ours

-- the four coefficients are finite
unfoldable pub finite_cubic : List Float → Bool
finite_cubic k = finite (k at 0) && finite (k at 1) && finite (k at 2) && finite (k at 3)

-- 1 for a maximum, -1 for a minimum
unfoldable pub sign_of : Bool → Float
sign_of is_max = cond is_max f1 (neg f1)

-- the stationary point of the polarity asked for, where the cubic has one
unfoldable pub stationary_of : List Float → Bool → Option Float
stationary_of k is_max =
    cond
    (lt f1e_6 (abs_of (k at 0)))
    (cond (lt f0 (discriminant_of k)) (Some ((neg (f2 ⊗ k at 1) ⊖ sign_of is_max ⊗ sqrt_of (discriminant_of k)) ⊘ (f6 ⊗ k at 0))) None)
    (cond (lt f1e_6 (abs_of (k at 1)) && cond is_max (lt (k at 1) f0) (not (lt (k at 1) f0))) (Some (neg (k at 2) ⊘ (f2 ⊗ k at 1))) None)

-- the better of the ends' value and the stationary point's, where the point is strictly inside the band
unfoldable pub better_by : Prims → List Float → Float → Float → Float → Float → Option Float → Float
better_by p k sign low high ends (Some s) = cond (lt low s && lt s high) (p.max_p turning_point ends (sign ⊗ horner_of k s)) ends
better_by p k sign low high ends None = ends

-- The largest value of k over the band for a maximum, the smallest for a minimum. A non-finite coefficient makes it NaN.
unfoldable pub extreme_by : Prims → List Float → Float → Float → Bool → Float
extreme_by p k low high is_max =
    let sign = sign_of is_max in
    cond
    (finite_cubic k)
    (sign ⊗ better_by p k sign low high (p.max_p band_ends (sign ⊗ horner_of k low) (sign ⊗ horner_of k high)) (stationary_of k is_max))
    nan

abbrev pub extreme_of : List Float → Float → Float → Bool → Float
extreme_of = extreme_by ours
