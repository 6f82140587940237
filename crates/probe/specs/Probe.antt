-- Each inner function's answer as one number, of plain numbers and the record of a set. Definitions only.
use Rattle.std.specs.Prelude.{ℕ, ◌+◌, List, [], ◌∷◌, Bool, cond, pos, Float, Result, Ok, Err}
use Rattle.std.specs.Float.{binary32}
use Rattle.std.specs.Float.Ieee.{of_int, neg}
use Rattle.float.specs.Num.{f0, f1, f2, f4}
use Rattle.tables.specs.declared.Set.{Set}
use Rattle.tables.specs.Refusal.{read_or_blank}
use Rattle.fit.specs.declared.Envelope.{Envelope}
use Rattle.fit.specs.Cubic.{◌at◌, coeffs_of}
use Rattle.fit.specs.Band.{band_of}
use Rattle.fit.specs.Envelope.{envelope_of}
use Rattle.fit.specs.Extrema.{extrema_of}
use Rattle.refine.specs.declared.Spot.{Spot}
use Rattle.refine.specs.declared.lend.Settled.{Settled}
use Rattle.refine.specs.Refine.{index_of, spatial_of}
use Rattle.refine.specs.Lend.{lent_of}
use Rattle.profile.specs.declared.Absence.{Absence}
use Rattle.profile.specs.declared.Absence.TheVariants.{Samples, Quotients, Line, Energy}
use Rattle.profile.specs.Profile.{statistic_of}
use Rattle.size.specs.Correct.{f3, geometry_of, beta_of, blend_beta_of, bounded_of, model_move_of}

-- the set that a record holds; of zeros where the record is refused
unfoldable pub held : List ℕ → Set
held b = read_or_blank b

-- the i-th coefficient of the cubic in log2 of sigma, or of the one in sigma
unfoldable pub cubic_of : List ℕ → Bool → List Float → ℕ → Float
cubic_of b geometry l i = coeffs_of (cond geometry (held b).geometry (held b).scale) l at i

-- the high or the low end of the band
unfoldable pub end_of : List ℕ → Float → Bool → Float
end_of b sigma high = cond high (band_of (held b).sigmas sigma).high (band_of (held b).sigmas sigma).low

-- the four numbers of an envelope: least, largest, and the sigma of each
unfoldable pub parts_of : Envelope → List Float
parts_of e = e.emin ∷ e.emax ∷ e.smin ∷ e.smax ∷ []

-- the i-th number of the envelope of four samples
unfoldable pub envelope_part : List ℕ → List Float → ℕ → Float
envelope_part b l i = parts_of (envelope_of (held b).scale (held b).sigmas l) at i

-- the i-th number of the envelope of a cubic and the two end samples
unfoldable pub extrema_part : List ℕ → List Float → Float → Float → ℕ → Float
extrema_part b k l0 l3 i = parts_of (extrema_of k (held b).sigmas l0 l3) at i

-- the inner level whose fit a sigma takes
unfoldable pub level_of : List ℕ → Float → ℕ
level_of b sigma = index_of (held b).sigmas sigma

-- the first nine of the values; NaN for what is missing
unfoldable pub first_nine : List Float → List Float
first_nine v = v at 0 ∷ v at 1 ∷ v at 2 ∷ v at 3 ∷ v at 4 ∷ v at 5 ∷ v at 6 ∷ v at 7 ∷ v at 8 ∷ []

-- the i-th of w1 to w5
unfoldable pub spatial_part : List ℕ → ℕ → List Float → ℕ → Float
spatial_part b index v i = spatial_of (held b) index (first_nine v) at i

-- four of the numbers, from the i-th on; NaN for what is missing
unfoldable pub four_of : List Float → ℕ → List Float
four_of k i = k at i ∷ k at (i + 1) ∷ k at (i + 2) ∷ k at (i + 3) ∷ []

-- nine cubics from 36 coefficients by position
unfoldable pub nine_fours : List Float → List (List Float)
nine_fours k =
    four_of k 0 ∷ four_of k 4 ∷ four_of k 8 ∷ four_of k 12 ∷ four_of k 16 ∷ four_of k 20 ∷ four_of k 24 ∷ four_of k 28 ∷ four_of k 32 ∷ []

-- a spot before its refinement: octave and scale index 0
unfoldable pub fresh_of : Float → Float → Float → Float → Bool → Spot
fresh_of x y sigma peak is_max = record { x = x; y = y; sigma = sigma; peak = peak; octave = 0; index = 0; max = is_max; dx = f0; dy = f0 }

-- what the refinement leaves, by numbers: 1 where it accepted and else 0, x, y, sigma, peak, the scale index
unfoldable pub leaves_of : Settled → List Float
leaves_of s =
    cond s.ok f1 f0 ∷ s.spot.x ∷ s.spot.y ∷ s.spot.sigma ∷ s.spot.peak ∷ of_int binary32 (pos s.spot.index) ∷ []

-- the i-th number that the refinement leaves of a spot
unfoldable pub refine_part : List ℕ → List Float → Spot → Float → ℕ → Float
refine_part b k spot ratio i = leaves_of (lent_of (held b) ratio (nine_fours k) spot) at i

-- minus the number of an absent statistic's cause, in the order of the tests
unfoldable pub minus_of : Absence → Float
minus_of Samples = neg f1
minus_of Quotients = neg f2
minus_of Line = neg f3
minus_of Energy = neg f4

-- a statistic's number, which is never below 0; where it is absent, what its cause gives
unfoldable pub number_of : Result Float Absence → Float
number_of (Ok x) = x
number_of (Err why) = minus_of why

-- the statistic with this number, or none: for which cause is all one to the part of a step
unfoldable pub given_of : Bool → Float → Result Float Absence
given_of present x = cond present (Ok x) (Err Samples)

-- the profile statistic of four samples
unfoldable pub statistic_part : List ℕ → List Float → Float
statistic_part b l = number_of (statistic_of (held b).sigmas l)

-- the part of a step that a statistic allows
unfoldable pub beta_part : List ℕ → Bool → Float → Float
beta_part b present x = beta_of (geometry_of (held b)) (given_of present x)

-- the part of a step that four samples allow
unfoldable pub blend_part : List ℕ → List Float → Float
blend_part b l = blend_beta_of (geometry_of (held b)) (held b).sigmas l

-- the part of the raw step, held to the cap
unfoldable pub bounded_part : List ℕ → Float → Float → Float
bounded_part b beta raw = bounded_of (geometry_of (held b)) beta raw

-- the move that the model proposes
unfoldable pub model_part : List ℕ → Float → Float → Float → Float → Float → Float
model_part b beta a derivative curvature bounded = model_move_of (geometry_of (held b)) beta a derivative curvature bounded
