-- The list is the one by the Rust's own tests: the test that document 01 adds refuses nothing. Assumes nothing.
use Rattle.std.specs.Prelude.{Option, Some, None, Ok}
use Prim.Native.Nat.{ℕ, zero, suc, ◌+◌, ◌-◌, ◌*◌, ◌≤◌, ◌<◌}
use native.Mathlib.Omega.{arith}
use mathlib.Core.Path.{◌≡◌, refl, sym, ◌∙◌}
use mathlib.Core.Bool.{Bool, true, false, cond, ◌&&◌}
use mathlib.Core.List.{List}
use lib.ListN.{length}
use lib.Ieee.{Float}
use Rattle.tables.specs.declared.Set.{Set}
use Rattle.tables.specs.declared.Thresholds.{Thresholds}
use Rattle.fit.specs.Near.{same}
use Rattle.fit.specs.Prims.{Prims, Allowed, ours}
use Rattle.fit.specs.Band.{band_by}
use Rattle.refine.specs.Refine.{refine_by}
use Rattle.refine.specs.declared.Spot.{Spot}
use Rattle.record.specs.Readable.{readable}
use Rattle.pixel.specs.declared.Frame.{Frame}
use Rattle.pixel.specs.Gate.{sigma_of, peak_of, gate_by}
use Rattle.pixel.specs.Ring.{ring_by}
use Rattle.pixel.specs.Verdict.{whole_of, anchor_of, record_of, admit_of, verdict_by, verdict_of}
use Rattle.pixel.specs.Rules.{cubics_at, own_samples, own_cubic}
use Rattle.samples.specs.Level.{Maps, maps_of, samples_at, nine_at, Within}
use Rattle.detect.specs.Due.{due}
use Rattle.detect.specs.Detect.{detect_of}
use Rattle.samples.proofs.LevelLaws.{length_nine}
use Rattle.detect.proofs.RefusalsLaws.{found_passed}
use Rattle.zeros.specs.Choices.{Choices, AllAllowed, all_ours, judge_by, pixel_due_by, row_due_by, rows_due_by, due_by}
use Rattle.zeros.specs.Alike.{RecordsNear}
use Rattle.zeros.proofs.ListNear.{due-ours, due~}
use Rattle.admission.specs.Rust.{own_shape_by, kept_of, rust_verdict_by, rust_verdict_of, rust_judge_by, rust_row_by, rust_rows_by, rust_due_by, rust_due}
use Rattle.admission.proofs.Samples.{samples_test_never_fires}
use Rattle.admission.proofs.Accepted.{readable_test_never_fires}
use Rattle.record.specs.declared.Record.{Record}

-- ---- a pixel

-- where each accepted spot's record is readable, asking for that changes nothing
kept_admitted : (f : Frame) (l : List Float) (key : ℕ) (answer : Option Spot)
    → ((spot : Spot) → answer ≡ Some spot → readable f.rows f.cols (record_of spot l key) ≡ true) → kept_of l key answer ≡ admit_of f l key answer
unfolding kept_of admit_of
kept_admitted f l key (Some spot) h = rw (h spot refl)
kept_admitted f l key None h = refl

-- a test that holds wherever two others do changes nothing beside them
third_test : (w g r : Bool) (x y z : Option Record) → (g ≡ true → r ≡ true → (w ≡ true) × (x ≡ y)) → cond (g && r) x z ≡ cond (w && g && r) y z
third_test true true true x y z h = (h refl refl).1
third_test false true true x y z h = let never = (h refl refl).0 in cc
third_test true true false x y z h = refl
third_test false true false x y z h = refl
third_test true false r x y z h = refl
third_test false false r x y z h = refl

module _ (P : ℕ → Prims) (allowed : Allowed (P 4)) (s : Set) (th : Thresholds) (f : Frame) (nine : List (List Float)) (row col : ℕ) (is_max : Bool) (nine_long : length nine ≡ 9)
    (rows-most : f.rows ≤ 4096) (cols-most : f.cols ≤ 4096) (octave-most : f.octave ≤ 5) (inside : Within 4 f row col) where
  -- on a judged pixel the test that document 01 adds refuses nothing, whatever the set, the thresholds and the choice of zeros
  pub extra_never_fires_by : rust_verdict_by P s th f nine row col is_max ≡ verdict_by P s th f nine row col is_max
  unfolding rust_verdict_by verdict_by
  extra_never_fires_by =
      let e = own_shape_by (P 4) s nine in
      let sigma = sigma_of e is_max in
      let peak = peak_of e is_max in
      let band = band_by (P 4) s.sigmas sigma in
      third_test (whole_of nine) (gate_by (P 4) th (own_samples nine) (own_cubic s nine) sigma peak is_max) (ring_by P (cubics_at s nine) peak band is_max) _ _ None
      (λ gates ring. (
        samples_test_never_fires P s.scale th nine nine_long sigma peak band is_max gates ring,
        kept_admitted f (own_samples nine) (row * f.cols + col) (refine_by (P 4) s th.ratio (cubics_at s nine) (anchor_of row col sigma peak f.octave is_max))
            (readable_test_never_fires P allowed s th f nine row col is_max nine_long rows-most cols-most octave-most inside band gates ring),
      ))

-- this build's choices are allowed
ours_allowed : Allowed ours
ours_allowed = record { low = λ i a b. same; high = λ i a b. same; first = λ i. same }

-- On a judged pixel, of a map of sides to 4,096 and an octave to 5, the verdict is the one by the Rust's own tests, whatever the set and the thresholds.
pub extra_never_fires : (s : Set) (th : Thresholds) (f : Frame) (nine : List (List Float)) (row col : ℕ) (is_max : Bool) → length nine ≡ 9
    → f.rows ≤ 4096 → f.cols ≤ 4096 → f.octave ≤ 5 → Within 4 f row col → rust_verdict_of s th f nine row col is_max ≡ verdict_of s th f nine row col is_max
extra_never_fires = extra_never_fires_by (λ i. ours) ours_allowed

-- ---- a map

module _ (P : Choices) (allowed : AllAllowed P) (m : Maps) (rows-most : m.frame.rows ≤ 4096) (cols-most : m.frame.cols ≤ 4096) (octave-most : m.frame.octave ≤ 5) where
  judged_alike : (row col : ℕ) (is_max : Bool) → Within 4 m.frame row col → rust_judge_by P m row col is_max ≡ judge_by P m row col is_max
  unfolding rust_judge_by judge_by
  judged_alike row col is_max inside =
      extra_never_fires_by (P row col is_max) (allowed row col is_max 4) m.set m.thresholds m.frame (nine_at m row col) row col is_max
      (length_nine (samples_at m) row col) rows-most cols-most octave-most inside

  row_alike : (row n : ℕ) → 4 ≤ row → row + 4 < m.frame.rows → n ≤ m.frame.cols - 8 → rust_row_by P m row n ≡ row_due_by P m row n
  unfolding rust_row_by row_due_by pixel_due_by
  row_alike row zero top bottom k = refl
  row_alike row (suc n) top bottom k =
      let inside : Within 4 m.frame row (n + 4) = record { top = top; bottom = bottom; left = omega arith; right = omega arith } in
      rw (row_alike row n top bottom (omega arith), judged_alike row (n + 4) false inside, judged_alike row (n + 4) true inside)

  rows_alike : (n : ℕ) → n ≤ m.frame.rows - 8 → rust_rows_by P m n ≡ rows_due_by P m n
  unfolding rust_rows_by rows_due_by
  rows_alike zero k = refl
  rows_alike (suc n) k = rw (rows_alike n (omega arith), row_alike (n + 4) (m.frame.cols - 8) (omega arith) (omega arith) (omega arith))

  -- the same choices of zeros give the same list with the test and without it
  pub due_untested : rust_due_by P m ≡ due_by P m
  unfolding rust_due_by due_by
  due_untested = rows_alike (m.frame.rows - 8) (omega arith)

  -- For a map of sides to 4,096 and an octave to 5, what the Rust's own tests let through, whatever zeros it chooses, is the due list but for the signs of zero peaks.
  pub due-by_any_rust : RecordsNear (rust_due_by P m) (due m)
  due-by_any_rust = rw due_untested (due~ P allowed m)

-- For such a map, with this build's choices of zeros, it is the due list.
pub due-by_the_rust : (m : Maps) → m.frame.rows ≤ 4096 → m.frame.cols ≤ 4096 → m.frame.octave ≤ 5 → rust_due m ≡ due m
due-by_the_rust m rows-most cols-most octave-most = due_untested all_ours (λ row col is_max i. ours_allowed) m rows-most cols-most octave-most ∙ sym (due-ours m)

-- ---- a call

module _ (s : Set) (th : Thresholds) (rows cols octave : ℕ) (l0 l1 l2 l3 : List Float) (out : List ℕ) (n : ℕ)
    (found : (detect_of s th rows cols octave l0 l1 l2 l3 out).answer ≡ Ok n) where
  abbrev maps : Maps
  maps = maps_of l0 l1 l2 l3 (record { rows = rows; cols = cols; octave = octave }) s th

  in_range_lem : (rows ≤ 4096) × (cols ≤ 4096) × (octave ≤ 5)
  in_range_lem = let passed = found_passed s th rows cols octave l0 l1 l2 l3 out n found in (passed.sized.rows-most, passed.sized.cols-most, passed.octave-most)

  -- A call of detection that is not refused lists what the Rust's own tests let through,
  pub found-by_the_rust : rust_due maps ≡ due maps
  found-by_the_rust = due-by_the_rust maps in_range_lem.0 in_range_lem.1 in_range_lem.2

  -- and whatever zeros the Rust chooses, the same but for the signs of zero peaks.
  pub found-by_any_rust : (P : Choices) → AllAllowed P → RecordsNear (rust_due_by P maps) (due maps)
  found-by_any_rust P allowed = due-by_any_rust P allowed maps in_range_lem.0 in_range_lem.1 in_range_lem.2
