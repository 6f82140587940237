-- The record of a spot that the gates, the neighbours and the refinement let through is readable. Assumes nothing.
use Rattle.std.specs.Prelude.{Some}
use Prim.Native.Nat.{ℕ, ◌+◌, ◌*◌, ◌≤◌}
use native.Mathlib.Omega.{arith}
use mathlib.Core.Path.{◌≡◌, refl, sym, ap, ◌∙◌, subst}
use mathlib.Core.Bool.{Bool, true, false}
use mathlib.Core.Logic.{◌⊎◌}
use mathlib.Core.List.{List}
use lib.Arith.{digits_lt}
use lib.ListN.{length}
use lib.Ieee.{Float}
use Rattle.float.specs.Num.{◌⊗◌, f6}
use Rattle.float.specs.Small.{finite}
use Rattle.tables.specs.declared.Set.{Set}
use Rattle.tables.specs.declared.Thresholds.{Thresholds}
use Rattle.fit.specs.Cubic.{◌at◌, curvature_of}
use Rattle.fit.specs.Prims.{Prims, Allowed}
use Rattle.fit.specs.declared.Band.{Band}
use Rattle.float.proofs.Finite.{sum-finite, product_finite}
use Rattle.moves.proofs.MovesLaws.{kept-nearby}
use Rattle.refine.specs.Refine.{refine_by}
use Rattle.refine.specs.declared.Spot.{Spot}
use Rattle.refine.proofs.RefineLaws.{accepted_displaced, index_inner}
use Rattle.record.specs.Readable.{readable}
use Rattle.record.proofs.ReadableLaws.{parts_readable}
use Rattle.pixel.specs.declared.Frame.{Frame}
use Rattle.pixel.specs.Gate.{sigma_of, peak_of, gate_by}
use Rattle.pixel.specs.Ring.{ring_by}
use Rattle.pixel.specs.Verdict.{anchor_of, polarity_of, record_of}
use Rattle.pixel.specs.Rules.{cubics_at, own_samples, own_cubic}
use Rattle.samples.specs.Level.{Within}
use Rattle.admission.specs.Rust.{own_shape_by}
use Rattle.admission.proofs.OnMap.{accepted-on-map}
use Rattle.admission.proofs.Samples.{gate_curvature, places-finite}
use Rattle.admission.proofs.Envelope.{peak-finite}

polarity-short : (is_max : Bool) → polarity_of is_max ≤ 1
unfolding polarity_of
polarity-short true = omega arith
polarity-short false = omega arith

-- a curvature is finite only at a finite sigma
curved_sigma : (k : List Float) (sigma : Float) → finite (curvature_of k sigma) ≡ true → finite sigma ≡ true
unfolding curvature_of
curved_sigma k sigma h = (product_finite (f6 ⊗ k at 0) sigma (sum-finite _ _ h).0).1

module _ (P : ℕ → Prims) (allowed : Allowed (P 4)) (s : Set) (th : Thresholds) (f : Frame) (nine : List (List Float)) (row col : ℕ) (is_max : Bool) where
  -- the sigma of its extreme
  abbrev sigma : Float
  sigma = sigma_of (own_shape_by (P 4) s nine) is_max

  -- the response there
  abbrev peak : Float
  peak = peak_of (own_shape_by (P 4) s nine) is_max

  -- The test that the join accepts a record refuses no spot of a judged pixel whose gates pass, whose peak beats the eight neighbours and which the refinement
  -- accepts, on a map of sides to 4,096 and an octave to 5, whatever the set and the thresholds.
  pub readable_test_never_fires : length nine ≡ 9 → f.rows ≤ 4096 → f.cols ≤ 4096 → f.octave ≤ 5 → Within 4 f row col → (band : Band)
      → gate_by (P 4) th (own_samples nine) (own_cubic s nine) sigma peak is_max ≡ true
      → ring_by P (cubics_at s nine) peak band is_max ≡ true
      → (spot : Spot) → refine_by (P 4) s th.ratio (cubics_at s nine) (anchor_of row col sigma peak f.octave is_max) ≡ Some spot
      → readable f.rows f.cols (record_of spot (own_samples nine) (row * f.cols + col)) ≡ true
  unfolding record_of anchor_of
  readable_test_never_fires nine_long rows-most cols-most octave-most inside band gates ring spot h =
      let place = accepted-on-map (P 4) s th.ratio (cubics_at s nine) f row col sigma peak f.octave is_max spot rows-most cols-most inside h in
      let moved = accepted_displaced (P 4) s th.ratio (cubics_at s nine) _ spot h in
      let own = places-finite P s.scale th nine nine_long sigma peak band is_max gates ring 4 (omega arith) in
      let sigma-finite = curved_sigma (own_cubic s nine) sigma (gate_curvature (P 4) th (own_samples nine) (own_cubic s nine) sigma peak is_max gates) in
      parts_readable f.rows f.cols _ (record {
        floats = record {
          x = place.x-finite;
          y = place.y-finite;
          sigma = ap finite moved.sigma ∙ sigma-finite;
          peak = ap finite moved.peak ∙ peak-finite (P 4) allowed _ s.sigmas _ _ is_max (own 0 (omega arith)) (own 3 (omega arith));
          s0 = own 0 (omega arith);
          s1 = own 1 (omega arith);
          s2 = own 2 (omega arith);
          s3 = own 3 (omega arith);
        };
        x = place.x;
        y = place.y;
        key = digits_lt (omega arith) (omega arith);
        octave = rw moved.octave octave-most;
        index = subst (λ (n : ℕ). (n ≡ 1) ⊎ (n ≡ 2)) (sym moved.index) (index_inner s.sigmas sigma);
        polarity = polarity-short spot.max;
        spare = refl;
        dx = rw moved.dx-is (kept-nearby _ moved.x-passes);
        dy = rw moved.dy-is (kept-nearby _ moved.y-passes);
      })
