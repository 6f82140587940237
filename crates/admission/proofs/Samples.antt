-- A pixel whose gates pass and whose peak beats the eight neighbours has finite samples at all nine places. Assumes nothing: a sample that is not finite
-- leaves no curvature of its place finite, and no band extreme of its place a number.
use Prim.Native.Nat.{ℕ, suc, ◌<◌, suc-le-suc}
use native.Mathlib.Omega.{arith}
use mathlib.Core.Path.{◌≡◌, refl, sym, ◌∙◌, subst}
use mathlib.Core.Bool.{Bool, true, false, cond, ◌&&◌, false≢true}
use mathlib.Core.List.{List, [], ◌∷◌}
use lib.Dec.{eqb}
use lib.ListN.{length, get_or}
use lib.Ieee.{Float, nan, inf, fin, lt}
use borrow.Author.Tests.{eqb-true}
use Rattle.float.specs.Small.{finite, abs_of}
use Rattle.float.specs.Num.{f0}
use Rattle.float.proofs.Bools.{both, all_four}
use Rattle.tables.specs.declared.Thresholds.{Thresholds}
use Rattle.fit.specs.Cubic.{◌at◌, coeffs_of, curvature_of}
use Rattle.fit.specs.Prims.{Prims}
use Rattle.fit.specs.Envelope.{within}
use Rattle.fit.specs.Band.{finite_cubic, extreme_by}
use Rattle.fit.specs.Owns.{owns_by}
use Rattle.fit.specs.declared.Band.{Band}
use Rattle.fit.proofs.Finite.{Whole}
use Rattle.fit.proofs.CubicLaws.{finite_curvature_finite_samples, lost_sample_no_coefficient}
use Rattle.pixel.specs.Gate.{strong_of, curved_of, gate_by}
use Rattle.pixel.specs.Ring.{beats_by, ring_by}
use Rattle.pixel.specs.Verdict.{cubics_of, whole_place, whole_of}
use Rattle.pixel.specs.Rules.{own_samples}
use Rattle.pixel.proofs.NineLaws.{cubics_place}
use Rattle.pixel.proofs.RingLaws.{all-each}

-- ---- the pixel's own place

-- the curvature is finite where the gates pass
pub gate_curvature : (p : Prims) (th : Thresholds) (l k : List Float) (sigma peak : Float) (is_max : Bool) → gate_by p th l k sigma peak is_max ≡ true → finite (curvature_of k sigma) ≡ true
unfolding gate_by curved_of
gate_curvature p th l k sigma peak is_max h =
    let c = curvature_of k sigma in
    let gates = all_four (within th.low th.high sigma) (strong_of th peak is_max) (curved_of th k sigma is_max) (owns_by p l is_max) h in
    (both (finite c) _ (both (finite c && cond is_max (lt c f0) (lt f0 c)) (lt th.sigma (abs_of c)) gates.2).0).0

-- ---- a neighbour

-- a NaN is not beaten
nan_unbeaten : (peak : Float) (is_max : Bool) → cond is_max (lt nan peak) (lt peak nan) ≡ false
unfolding lt
nan_unbeaten peak true = refl
nan_unbeaten nan false = refl
nan_unbeaten (inf s) false = refl
nan_unbeaten (fin s m e) false = refl

-- a cubic whose first coefficient is not finite has the extreme NaN
lost_extreme : (p : Prims) (k : List Float) (low high : Float) (is_max : Bool) → finite (k at 0) ≡ false → extreme_by p k low high is_max ≡ nan
unfolding extreme_by finite_cubic
lost_extreme p k low high is_max h = rw h

-- a place whose band extreme is beaten has finite samples
beaten_whole : (p : Prims) (t l : List Float) (low high peak : Float) (is_max : Bool) →
    let extreme = extreme_by p (coeffs_of t l) low high is_max in
    cond is_max (lt extreme peak) (lt peak extreme) ≡ true → Whole l
beaten_whole p t l low high peak is_max h j below = by (finite (l at j)) refl where
  by : (b : Bool) → finite (l at j) ≡ b → finite (l at j) ≡ true
  by true e = e
  by false e =
      let lost = lost_extreme p (coeffs_of t l) low high is_max (lost_sample_no_coefficient t l j below e 0) in
      absurd (false≢true (sym (nan_unbeaten peak is_max) ∙ (rw lost at h)))

-- ---- all nine

each-whole : (ls : List (List Float)) → ((i : ℕ) → i < length ls → Whole (get_or ls i [])) → whole_of ls ≡ true
unfolding whole_of whole_place
each-whole [] h = refl
each-whole (l ∷ ls) h =
    let own : Whole l = h 0 (omega arith) in
    rw (own 0 (omega arith), own 1 (omega arith), own 2 (omega arith), own 3 (omega arith), each-whole ls (λ i below. h (suc i) (suc-le-suc below)))

-- a pixel with the extreme (sigma, peak) has passed the gates, and beats the neighbours over the band, each by its own choice of zeros
module _ (P : ℕ → Prims) (t : List Float) (th : Thresholds) (nine : List (List Float)) (nine_long : length nine ≡ 9) (sigma peak : Float) (band : Band) (is_max : Bool)
    (gates : gate_by (P 4) th (own_samples nine) (get_or (cubics_of t nine) 4 []) sigma peak is_max ≡ true) (ring : ring_by P (cubics_of t nine) peak band is_max ≡ true) where
  own-whole : Whole (own_samples nine)
  own-whole =
      let own = cubics_place t nine 4 (omega arith) in
      finite_curvature_finite_samples t (own_samples nine) sigma (rw own at (gate_curvature (P 4) th (own_samples nine) (get_or (cubics_of t nine) 4 []) sigma peak is_max gates))

  place-whole : (i : ℕ) → i < 9 → (b : Bool) → eqb i 4 ≡ b → Whole (get_or nine i [])
  unfolding ring_by beats_by
  place-whole i below true e = subst (λ (j : ℕ). Whole (get_or nine j [])) (sym (eqb-true i 4 e)) own-whole
  place-whole i below false e =
      let beaten = all-each (beats_by P (cubics_of t nine) peak band is_max) 9 ring i below in
      beaten_whole (P i) t (get_or nine i []) band.low band.high peak is_max (rw (e, cubics_place t nine i (omega arith)) at beaten)

  -- all four samples are finite at each place
  pub places-finite : (i : ℕ) → i < 9 → Whole (get_or nine i [])
  places-finite i below = place-whole i below (eqb i 4) refl

  -- The test that all 36 samples are finite refuses no pixel whose gates pass and whose peak beats the eight neighbours, whatever the set and the thresholds.
  pub samples_test_never_fires : whole_of nine ≡ true
  samples_test_never_fires = each-whole nine (λ i below. places-finite i (omega arith))
