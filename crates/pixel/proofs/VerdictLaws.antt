-- A pixel lists a record exactly where each of the rules is met; what follows for the record. Assumes nothing.
use Rattle.std.specs.Prelude.{Option, Some, None}
use Prim.Native.Nat.{ℕ, ◌+◌, ◌*◌}
use mathlib.Core.Path.{◌≡◌, refl, sym, ◌∙◌, ap, subst}
use mathlib.Core.List.{List, []}
use mathlib.Core.Bool.{Bool, true, false, true≢false, false≢true, ◌||◌, and-false}
use lib.Dec.{eqb}
use lib.ListN.{get_or}
use lib.Ieee.{Float, lt, le}
use borrow.Author.Tests.{eq-eqb, ne_eqb}
use Rattle.float.specs.Small.{finite, abs_of}
use Rattle.float.proofs.Bools.{both, neither, passed}
use Rattle.tables.specs.declared.Set.{Set}
use Rattle.tables.specs.declared.Thresholds.{Thresholds}
use Rattle.fit.specs.Prims.{ours}
use Rattle.fit.specs.Envelope.{within}
use Rattle.fit.specs.Band.{band_of}
use Rattle.fit.specs.Owns.{owns_of}
use Rattle.refine.specs.declared.Spot.{Spot}
use Rattle.refine.proofs.RefineLaws.{accepted_displaced}
use Rattle.record.specs.Readable.{readable}
use Rattle.record.specs.declared.Record.{Record}
use Rattle.pixel.specs.Gate.{strong_of, curved_of, gate_by, own_gate_of}
use Rattle.pixel.specs.Ring.{beats_by, ring_by, ring_of}
use Rattle.pixel.specs.Verdict.{may_list, whole_of, anchor_of, polarity_of, record_of, admit_of, verdict_by, verdict_of}
use Rattle.pixel.specs.Rules.{cubics_at, own_samples, own_cubic, own_sigma, own_peak, own_curvature, Admits}
use Rattle.pixel.specs.declared.Frame.{Frame}
use Rattle.pixel.proofs.GateLaws.{own_gates_fail}
use Rattle.pixel.proofs.RingLaws.{all_true, all-each}

-- ---- what is not listed

module _ (s : Set) (th : Thresholds) (f : Frame) (nine : List (List Float)) (row col : ℕ) (is_max : Bool) where
  -- where a sample is not finite nothing is listed
  pub not-whole : whole_of nine ≡ false → verdict_of s th f nine row col is_max ≡ None
  unfolding verdict_by
  not-whole h = rw h

-- the gates of either polarity fail where both do
own-fails : (s : Set) (th : Thresholds) (nine : List (List Float)) (is_max : Bool) → may_list s th (own_samples nine) ≡ false →
    gate_by ours th (own_samples nine) (own_cubic s nine) (own_sigma s nine is_max) (own_peak s nine is_max) is_max ≡ false
unfolding may_list
own-fails s th nine false h = own_gates_fail s th nine false (neither _ (own_gate_of s th (own_samples nine) true) h).0
own-fails s th nine true h = own_gates_fail s th nine true (neither (own_gate_of s th (own_samples nine) false) _ h).1

-- a pixel whose own gates fail lists nothing
pub may_not_list : (s : Set) (th : Thresholds) (f : Frame) (nine : List (List Float)) (row col : ℕ) (is_max : Bool) →
    may_list s th (get_or nine 4 []) ≡ false → verdict_of s th f nine row col is_max ≡ None
unfolding verdict_by
may_not_list s th f nine row col is_max h = rw (own-fails s th nine is_max h, and-false (whole_of nine))

-- ---- what is listed

nothing_no_record : (r : Record) → None ≡ Some r → ⊥
nothing_no_record r e = let z : false ≡ true = cc in false≢true z

-- what an answer of the refinement comes to, where it is listed
record Admitted (f : Frame) (l : List Float) (key : ℕ) (answer : Option Spot) (r : Record) : Type 0 where
  spot : Spot
  accepted : answer ≡ Some spot
  made : r ≡ record_of spot l key
  joins : readable f.rows f.cols r ≡ true

admitted : (f : Frame) (l : List Float) (key : ℕ) (answer : Option Spot) (r : Record) → admit_of f l key answer ≡ Some r → Admitted f l key answer r
unfolding admit_of
admitted f l key (Some spot) r h =
    let p = passed (readable f.rows f.cols (record_of spot l key)) (Some (record_of spot l key)) None h (nothing_no_record r) in
    let made : r ≡ record_of spot l key = let e = p.1 in cc in
    record { spot = spot; accepted = refl; made = made; joins = ap (readable f.rows f.cols) made ∙ p.0 }
admitted f l key None r h = let z : ◌≡◌ {A = Bool} false true = cc in absurd (false≢true z)

-- what the neighbour test says of a neighbour, and of the pixel itself
beats_neighbour : (t : Bool) (i : ℕ) → (i ≡ 4 → ⊥) → eqb i 4 || t ≡ true → t ≡ true
beats_neighbour t i other h = subst (λ (b : Bool). b || t ≡ true) (ne_eqb i 4 other) h

beats_at : (t : Bool) (i : ℕ) → ((i ≡ 4 → ⊥) → t ≡ true) → eqb i 4 || t ≡ true
beats_at t i h = by (eqb i 4) refl where
  by : (b : Bool) → eqb i 4 ≡ b → eqb i 4 || t ≡ true
  by true e = rw e
  by false e = rw (e, h (λ q. true≢false (sym (eq-eqb i 4 q) ∙ e)))

module _ (s : Set) (th : Thresholds) (f : Frame) (nine : List (List Float)) (row col : ℕ) (is_max : Bool) (r : Record) where
  -- a listed record meets each rule
  pub listed_admits : verdict_of s th f nine row col is_max ≡ Some r → Admits s th f nine row col is_max r
  unfolding verdict_by gate_by within strong_of curved_of ring_by beats_by
  listed_admits h =
      let tests = passed _ _ None h (nothing_no_record r) in
      let ring = both _ _ tests.0 in
      let gates = both (whole_of nine) _ ring.0 in
      let owner = both _ (owns_of (own_samples nine) is_max) gates.1 in
      let bent = both _ (curved_of th (own_cubic s nine) (own_sigma s nine is_max) is_max) owner.0 in
      let strength = both _ (strong_of th (own_peak s nine is_max) is_max) bent.0 in
      let window = both _ (le (own_sigma s nine is_max) th.high) strength.0 in
      let size = both _ (lt th.sigma (abs_of (own_curvature s nine is_max))) bent.1 in
      let sign = both (finite (own_curvature s nine is_max)) _ size.0 in
      let join = admitted f (own_samples nine) (row * f.cols + col) _ r tests.1 in
      record {
        samples_finite = gates.0;
        window_low = window.0;
        window_high = window.1;
        peak_beyond = strength.1;
        curvature_finite = sign.0;
        curvature_sign = sign.1;
        curvature_beyond = size.1;
        owned = owner.1;
        beats = λ i below other. beats_neighbour _ i other (all-each _ 9 ring.1 i below);
        spot = join.spot;
        refinement = join.accepted;
        record_of_spot = join.made;
        join_accepts = join.joins;
      }

  -- a record that meets each rule is listed
  pub admits_listed : Admits s th f nine row col is_max r → verdict_of s th f nine row col is_max ≡ Some r
  unfolding verdict_by gate_by within strong_of curved_of ring_by beats_by admit_of
  admits_listed a =
      let ring : ring_of (cubics_at s nine) (own_peak s nine is_max) (band_of s.sigmas (own_sigma s nine is_max)) is_max ≡ true =
      all_true _ 9 (λ i below. beats_at _ i (a.beats i below)) in
      rw (a.samples_finite, a.window_low, a.window_high, a.peak_beyond, a.curvature_finite, a.curvature_sign, a.curvature_beyond, a.owned, ring, a.refinement, ← a.record_of_spot, a.join_accepts)

  -- a listed record's key is its pixel's
  pub listed-key : verdict_of s th f nine row col is_max ≡ Some r → r.key ≡ row * f.cols + col
  unfolding record_of
  listed-key h = let e = (listed_admits h).record_of_spot in cc

  -- its polarity is the one that was judged: the refinement keeps it
  pub listed-polarity : verdict_of s th f nine row col is_max ≡ Some r → r.polarity ≡ polarity_of is_max
  unfolding record_of anchor_of
  listed-polarity h =
      let a = listed_admits h in
      let made = a.record_of_spot in
      let kept = (accepted_displaced ours s th.ratio (cubics_at s nine) _ a.spot a.refinement).max in
      let e : r.polarity ≡ polarity_of a.spot.max = cc in
      e ∙ ap polarity_of kept

  -- the join accepts it
  pub listed-readable : verdict_of s th f nine row col is_max ≡ Some r → readable f.rows f.cols r ≡ true
  listed-readable h = (listed_admits h).join_accepts

  -- all its samples are finite, and its neighbours' too
  pub listed-whole : verdict_of s th f nine row col is_max ≡ Some r → whole_of nine ≡ true
  listed-whole h = (listed_admits h).samples_finite
