-- The rules that a listed spot meets, each by itself. Definitions only.
use Rattle.std.specs.Prelude.{ℕ, ◌+◌, ◌*◌, ◌<◌, ◌≡◌, List, [], Bool, true, cond, get_or, Float, Some}
use Rattle.std.specs.Float.Ieee.{lt, le, neg}
use Rattle.float.specs.Small.{finite, abs_of}
use Rattle.tables.specs.declared.Set.{Set}
use Rattle.tables.specs.declared.Thresholds.{Thresholds}
use Rattle.fit.specs.Cubic.{◌at◌, curvature_of, bends_of}
use Rattle.fit.specs.Envelope.{shape_of}
use Rattle.fit.specs.Band.{band_of, extreme_of}
use Rattle.fit.specs.Owns.{owns_of}
use Rattle.fit.specs.declared.Envelope.{Envelope}
use Rattle.refine.specs.Refine.{refine_of}
use Rattle.refine.specs.declared.Spot.{Spot}
use Rattle.record.specs.Readable.{readable}
use Rattle.record.specs.declared.Record.{Record}
use Rattle.pixel.specs.Gate.{sigma_of, peak_of}
use Rattle.pixel.specs.Verdict.{cubics_of, whole_of, anchor_of, record_of}
use Rattle.pixel.specs.declared.Frame.{Frame}

-- the cubics at the nine places
abbrev pub cubics_at : Set → List (List Float) → List (List Float)
cubics_at s nine = cubics_of s.scale nine

-- the pixel's own samples
abbrev pub own_samples : List (List Float) → List Float
own_samples nine = get_or nine 4 []

-- its cubic
abbrev pub own_cubic : Set → List (List Float) → List Float
own_cubic s nine = get_or (cubics_at s nine) 4 []

-- its envelope
abbrev pub own_envelope : Set → List (List Float) → Envelope
own_envelope s nine = shape_of (own_cubic s nine) s.sigmas (own_samples nine at 0) (own_samples nine at 3)

-- the sigma of its extreme
abbrev pub own_sigma : Set → List (List Float) → Bool → Float
own_sigma s nine is_max = sigma_of (own_envelope s nine) is_max

-- the response there
abbrev pub own_peak : Set → List (List Float) → Bool → Float
own_peak s nine is_max = peak_of (own_envelope s nine) is_max

-- the curvature there
abbrev pub own_curvature : Set → List (List Float) → Bool → Float
own_curvature s nine is_max = curvature_of (own_cubic s nine) (own_sigma s nine is_max)

-- the extreme of the i-th place's cubic over the band in which the pixel competes
abbrev pub band_extreme : Set → List (List Float) → Bool → ℕ → Float
band_extreme s nine is_max i =
    extreme_of (get_or (cubics_at s nine) i []) (band_of s.sigmas (own_sigma s nine is_max)).low (band_of s.sigmas (own_sigma s nine is_max)).high is_max

-- the pixel (row, col) with the samples nine at its nine places is admitted at a polarity, with the record r
pub record Admits (s : Set) (th : Thresholds) (f : Frame) (nine : List (List Float)) (row col : ℕ) (is_max : Bool) (r : Record) : Type 0 where
  -- all four samples are finite, at its eight neighbours too
  pub samples_finite : whole_of nine ≡ true
  -- sigma in the closed window
  pub window_low : le th.low (own_sigma s nine is_max) ≡ true
  pub window_high : le (own_sigma s nine is_max) th.high ≡ true
  -- peak strictly beyond plus or minus the peak threshold
  pub peak_beyond : cond is_max (lt th.peak (own_peak s nine is_max)) (lt (own_peak s nine is_max) (neg th.peak)) ≡ true
  -- curvature finite, of the right sign and strictly beyond the sigma threshold in size
  pub curvature_finite : finite (own_curvature s nine is_max) ≡ true
  pub curvature_sign : bends_of (own_curvature s nine is_max) is_max ≡ true
  pub curvature_beyond : lt th.sigma (abs_of (own_curvature s nine is_max)) ≡ true
  -- an inner level owns the extremum
  pub owned : owns_of (own_samples nine) is_max ≡ true
  -- the peak strictly beats the band extreme of all eight neighbours
  pub beats : (i : ℕ) → i < 9 → (i ≡ 4 → ⊥) →
      cond is_max (lt (band_extreme s nine is_max i) (own_peak s nine is_max)) (lt (own_peak s nine is_max) (band_extreme s nine is_max i)) ≡ true
  -- the refinement accepts a spot
  pub spot : Spot
  pub refinement : refine_of s th.ratio (cubics_at s nine) (anchor_of row col (own_sigma s nine is_max) (own_peak s nine is_max) f.octave is_max) ≡ Some spot
  -- the record is that spot's
  pub record_of_spot : r ≡ record_of spot (own_samples nine) (row * f.cols + col)
  -- the join accepts it
  pub join_accepts : readable f.rows f.cols r ≡ true
