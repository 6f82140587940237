-- The verdict on a judged pixel, taken apart: whether a record is listed does not turn on the pixel's place or on its map's sides, and of the record only x, y and the key do.
-- Assumes nothing: a spot that moves by at most 0.6 stays on its map (displaced_on_side).
use Rattle.std.specs.Prelude.{Option, Some, None}
use Prim.Native.Nat.{ℕ, ◌+◌, ◌-◌, ◌*◌, ◌≤◌, ◌<◌}
use native.Mathlib.Omega.{arith}
use mathlib.Core.Path.{◌≡◌, refl}
use mathlib.Core.Bool.{Bool, true, false, not, cond, and-true, ◌&&◌, ◌||◌}
use mathlib.Core.List.{List}
use lib.IntN.{pos}
use lib.Dec.{leb, eqb}
use lib.Arith.{digits_lt}
use lib.Ieee.{Float, binary32, of_int, lt}
use borrow.Author.Tests.{lt-ltb}
use Rattle.float.specs.Num.{◌⊕◌, f1e_10}
use Rattle.float.specs.Small.{finite, abs_of}
use Rattle.float.proofs.Bools.{both}
use Rattle.tables.specs.declared.Set.{Set}
use Rattle.tables.specs.declared.Thresholds.{Thresholds}
use Rattle.fit.specs.Cubic.{◌at◌}
use Rattle.fit.specs.Prims.{ours}
use Rattle.fit.specs.Band.{band_of}
use Rattle.refine.specs.Refine.{values_of, edge_of, index_of, spatial_of, denominator_of, steep_of, delta_yOf, delta_xOf, nearby, placed_of, moved_of, refine_by, refine_of}
use Rattle.refine.specs.declared.Spot.{Spot}
use Rattle.record.specs.declared.Record.{Record}
use Rattle.record.specs.Readable.{finite_record, on_side, readable}
use Rattle.pixel.specs.declared.Frame.{Frame}
use Rattle.pixel.specs.Gate.{gate_by}
use Rattle.pixel.specs.Ring.{ring_of}
use Rattle.pixel.specs.Verdict.{whole_of, anchor_of, record_of, admit_of, verdict_by, verdict_of}
use Rattle.pixel.specs.Rules.{cubics_at, own_samples, own_cubic, own_sigma, own_peak}
use Rattle.admission.proofs.Displaced.{displaced_on_side}
use Rattle.samples.specs.Level.{Within}

-- ---- tests one after the other

one_test : (a b c d e : Bool) (x y : Option Spot) → cond a (cond b y (cond c y (cond d (cond e x y) y))) y ≡ cond (a && (not b && (not c && (d && e)))) x y
one_test false b c d e x y = refl
one_test true true c d e x y = refl
one_test true false true d e x y = refl
one_test true false false false e x y = refl
one_test true false false true e x y = refl

none-none : (a b : Bool) (x y : Option Record) → cond a y y ≡ cond (a && (false && b)) x y
none-none true b x y = refl
none-none false b x y = refl

two_tests : (a b : Bool) (x y : Option Record) → cond a (cond b x y) y ≡ cond (a && (true && b)) x y
two_tests true b x y = refl
two_tests false b x y = refl

-- ---- what makes a record readable, apart from its place

abbrev pub otherwise : Record → Bool
otherwise r =
    finite r.sigma && finite r.peak && finite r.s0 && finite r.s1 && finite r.s2 && finite r.s3 && leb r.octave 5
    && (eqb r.index 1 || eqb r.index 2) && leb r.polarity 1 && eqb r.spare 0
    && nearby r.dx && nearby r.dy

readable-on : (rows cols : ℕ) (r : Record) → finite r.x ≡ true → finite r.y ≡ true → on_side cols r.x ≡ true → on_side rows r.y ≡ true
    → r.key < rows * cols → readable rows cols r ≡ otherwise r
unfolding readable finite_record
readable-on rows cols r fx fy ox oy k = rw (fx, fy, ox, oy, lt-ltb _ _ k, and-true, and-true, and-true)

module _ (s : Set) (th : Thresholds) (octave : ℕ) (nine : List (List Float)) (is_max : Bool) where
  abbrev pub fitted : List Float
  fitted = spatial_of s (index_of s.sigmas (own_sigma s nine is_max)) (values_of (cubics_at s nine) (own_sigma s nine is_max))

  -- the displacements
  abbrev pub up_down : Float
  up_down = delta_yOf fitted

  abbrev pub left_right : Float
  left_right = delta_xOf fitted up_down

  -- the tests that the refinement makes
  abbrev edge : Bool
  edge = edge_of (values_of (cubics_at s nine) (own_sigma s nine is_max)) th.ratio is_max

  abbrev flat : Bool
  flat = lt (denominator_of fitted) f1e_10

  abbrev level : Bool
  level = lt (abs_of (fitted at 0)) f1e_10

  abbrev steep : Bool
  steep = steep_of fitted is_max

  -- the refinement accepts
  abbrev pub accepts : Bool
  accepts = edge && (not flat && (not level && (steep && (nearby left_right && nearby up_down))))

  -- the spot that it then gives
  abbrev pub spot_at : ℕ → ℕ → Spot
  spot_at row col = record {
    x = of_int binary32 (pos col) ⊕ left_right;
    y = of_int binary32 (pos row) ⊕ up_down;
    sigma = own_sigma s nine is_max;
    peak = own_peak s nine is_max;
    octave = octave;
    index = index_of s.sigmas (own_sigma s nine is_max);
    max = is_max;
    dx = left_right;
    dy = up_down;
  }

  refined : (row col : ℕ) → refine_of s th.ratio (cubics_at s nine) (anchor_of row col (own_sigma s nine is_max) (own_peak s nine is_max) octave is_max)
      ≡ cond accepts (Some (spot_at row col)) None
  unfolding refine_by moved_of placed_of anchor_of
  refined row col = one_test edge flat level steep (nearby left_right && nearby up_down) (Some (spot_at row col)) None

  -- its record, with the key given
  abbrev pub made_at : ℕ → ℕ → ℕ → Record
  made_at row col key = record_of (spot_at row col) (own_samples nine) key

  -- it stands out, and its samples are finite
  abbrev standing : Bool
  standing =
      whole_of nine && gate_by ours th (own_samples nine) (own_cubic s nine) (own_sigma s nine is_max) (own_peak s nine is_max) is_max
      && ring_of (cubics_at s nine) (own_peak s nine is_max) (band_of s.sigmas (own_sigma s nine is_max)) is_max

  -- whether the pixel lists a record: nothing here speaks of its place
  abbrev pub lists : Bool
  lists = standing && (accepts && otherwise (made_at 0 0 0))

  -- both displacements pass where the refinement accepts
  pass : accepts ≡ true → (nearby left_right ≡ true) × (nearby up_down ≡ true)
  pass h =
      let a = both edge (not flat && (not level && (steep && (nearby left_right && nearby up_down)))) h in
      let b = both (not flat) (not level && (steep && (nearby left_right && nearby up_down))) a.1 in
      let c = both (not level) (steep && (nearby left_right && nearby up_down)) b.1 in
      let d = both steep (nearby left_right && nearby up_down) c.1 in
      both (nearby left_right) (nearby up_down) d.1

  module _ (rows cols : ℕ) (rows-most : rows ≤ 16777216) (cols-most : cols ≤ 16777216) (row col : ℕ)
      (inside : Within 4 (record { rows = rows; cols = cols; octave = octave }) row col) where
    abbrev frame : Frame
    frame = record { rows = rows; cols = cols; octave = octave }

    admitted : (b : Bool) → accepts ≡ b → (a : Bool)
        → cond a (admit_of frame (own_samples nine) (row * cols + col) (cond b (Some (spot_at row col)) None)) None
        ≡ cond (a && (b && otherwise (made_at 0 0 0))) (Some (made_at row col (row * cols + col))) None
    unfolding admit_of record_of
    admitted false e a = none-none a (otherwise (made_at 0 0 0)) (Some (made_at row col (row * cols + col))) None
    admitted true e a =
        let near = pass e in
        let x = displaced_on_side cols col left_right (omega arith) (omega arith) cols-most near.0 in
        let y = displaced_on_side rows row up_down (omega arith) (omega arith) rows-most near.1 in
        let on = readable-on rows cols (made_at row col (row * cols + col)) x.0 y.0 x.1 y.1 (digits_lt (omega arith) (omega arith)) in
        rw on (two_tests a (otherwise (made_at 0 0 0)) (Some (made_at row col (row * cols + col))) None)

    -- The verdict on a judged pixel.
    pub verdict_form : verdict_of s th frame nine row col is_max ≡ cond lists (Some (made_at row col (row * cols + col))) None
    unfolding verdict_by
    verdict_form = rw (refined row col) (admitted accepts refl standing)
