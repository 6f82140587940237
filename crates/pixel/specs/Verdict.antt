-- What a pixel lists at one polarity, from the samples at its nine places. Definitions only.
use Rattle.std.specs.Prelude.{ℕ, ◌+◌, ◌*◌, List, [], ◌∷◌, Bool, true, false, cond, ◌&&◌, ◌||◌, pos, get_or, Float, Option, Some, None}
use Rattle.std.specs.Float.{binary32}
use Rattle.std.specs.Float.Ieee.{of_int}
use Rattle.float.specs.Small.{finite}
use Rattle.float.specs.Num.{f0}
use Rattle.moves.specs.Moves.{kept_of}
use Rattle.tables.specs.declared.Set.{Set}
use Rattle.tables.specs.declared.Thresholds.{Thresholds}
use Rattle.fit.specs.Cubic.{◌at◌, coeffs_of}
use Rattle.fit.specs.Prims.{Prims, ours}
use Rattle.fit.specs.Envelope.{shape_by}
use Rattle.fit.specs.Band.{band_by}
use Rattle.refine.specs.Refine.{refine_by}
use Rattle.refine.specs.declared.Spot.{Spot}
use Rattle.record.specs.Readable.{readable}
use Rattle.record.specs.declared.Record.{Record}
use Rattle.pixel.specs.Gate.{sigma_of, peak_of, gate_by, own_gate_of}
use Rattle.pixel.specs.Ring.{ring_by}
use Rattle.pixel.specs.declared.Frame.{Frame}

-- the pixel may list a minimum or a maximum
unfoldable pub may_list : Set → Thresholds → List Float → Bool
may_list s th l = own_gate_of s th l false || own_gate_of s th l true

-- the cubics that the table t makes of samples at several places
unfoldable pub cubics_of : List Float → List (List Float) → List (List Float)
cubics_of t [] = []
cubics_of t (l ∷ ls) = coeffs_of t l ∷ cubics_of t ls

-- all four samples of a place are finite
unfoldable pub whole_place : List Float → Bool
whole_place l = finite (l at 0) && finite (l at 1) && finite (l at 2) && finite (l at 3)

-- all four samples are finite at each place
unfoldable pub whole_of : List (List Float) → Bool
whole_of [] = true
whole_of (l ∷ ls) = whole_place l && whole_of ls

-- a spot at the pixel itself, before it is refined
unfoldable pub anchor_of : ℕ → ℕ → Float → Float → ℕ → Bool → Spot
anchor_of row col sigma peak octave is_max =
    record { x = of_int binary32 (pos col); y = of_int binary32 (pos row); sigma = sigma; peak = peak; octave = octave; index = 0; max = is_max; dx = f0; dy = f0 }

-- 1 for a maximum, 0 for a minimum
unfoldable pub polarity_of : Bool → ℕ
polarity_of is_max = cond is_max 1 0

-- the record of a refined spot: its centre samples l, the order key row*cols + col of its pixel, and how far it was moved
unfoldable pub record_of : Spot → List Float → ℕ → Record
record_of spot l key = record {
  x = spot.x;
  y = spot.y;
  sigma = spot.sigma;
  peak = spot.peak;
  s0 = l at 0;
  s1 = l at 1;
  s2 = l at 2;
  s3 = l at 3;
  key = key;
  octave = spot.octave;
  index = spot.index;
  polarity = polarity_of spot.max;
  spare = 0;
  dx = kept_of spot.dx;
  dy = kept_of spot.dy;
}

-- an accepted spot's record is listed where the join accepts it, so that each of its floats is finite
unfoldable pub admit_of : Frame → List Float → ℕ → Option Spot → Option Record
admit_of f l key (Some spot) = cond (readable f.rows f.cols (record_of spot l key)) (Some (record_of spot l key)) None
admit_of f l key None = None

-- The verdict on the pixel (row, col) at one polarity: nine holds the samples at its nine places by rows, its own at 4. All samples are finite, the
-- pixel's own gates pass, its peak beats the eight neighbours, and the refinement accepts. P 4 are the choices of zeros at the pixel.
unfoldable pub verdict_by : (ℕ → Prims) → Set → Thresholds → Frame → List (List Float) → ℕ → ℕ → Bool → Option Record
verdict_by P s th f nine row col is_max =
    let k = cubics_of s.scale nine in
    let l = get_or nine 4 [] in
    let e = shape_by (P 4) (get_or k 4 []) s.sigmas (l at 0) (l at 3) in
    let sigma = sigma_of e is_max in
    let peak = peak_of e is_max in
    cond
    (whole_of nine && gate_by (P 4) th l (get_or k 4 []) sigma peak is_max && ring_by P k peak (band_by (P 4) s.sigmas sigma) is_max)
    (admit_of f l (row * f.cols + col) (refine_by (P 4) s th.ratio k (anchor_of row col sigma peak f.octave is_max)))
    None

abbrev pub verdict_of : Set → Thresholds → Frame → List (List Float) → ℕ → ℕ → Bool → Option Record
verdict_of = verdict_by (λ i. ours)
