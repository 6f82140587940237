-- A pixel's verdict under any choice of zeros: the same but for the sign of a zero peak.
use Rattle.std.specs.Prelude.{Option, None}
use mathlib.Core.Path.{◌≡◌, refl}
use Prim.Native.Nat.{ℕ, zero, suc, ◌+◌, ◌*◌}
use mathlib.Core.List.{List, []}
use mathlib.Core.Bool.{Bool, true, false, cond, ◌&&◌}
use lib.IntN.{pos}
use lib.ListN.{get_or}
use lib.Ieee.{Float}
use Rattle.tables.specs.declared.Set.{Set}
use Rattle.tables.specs.declared.Thresholds.{Thresholds}
use Rattle.float.proofs.Floats.{zero_eq_zero}
use Rattle.moves.specs.Moves.{kept_of}
use Rattle.fit.specs.Near.{Near, same, zeros}
use Rattle.fit.specs.Prims.{Prims, Allowed, ours}
use Rattle.fit.specs.Cubic.{◌at◌}
use Rattle.fit.specs.Band.{band_by}
use Rattle.fit.specs.declared.Band.{Band}
use Rattle.refine.specs.Refine.{refine_by}
use Rattle.refine.specs.declared.Spot.{Spot}
use Rattle.record.specs.Readable.{finite_record, readable}
use Rattle.record.specs.declared.Record.{Record}
use Rattle.pixel.specs.Gate.{sigma_of, peak_of, strong_of, gate_by}
use Rattle.pixel.specs.Ring.{all_of, beats_by, ring_by}
use Rattle.pixel.specs.Verdict.{cubics_of, whole_of, anchor_of, record_of, admit_of, verdict_by, verdict_of}
use Rattle.pixel.specs.declared.Frame.{Frame}
use Rattle.zeros.specs.Steps.{BandNear, SpotNear, RefinedNear, rejected, accepted}
use Rattle.zeros.specs.Alike.{RecordNear, VerdictNear, nothing, listed}
use Rattle.zeros.proofs.NearLaws.{lt~, fin~, chosen~, and~, whole_add~}
use Rattle.zeros.proofs.FitNear.{shape~, owns~, band~, extreme~}
use Rattle.zeros.proofs.RefineNear.{refine~}

strong~ : (th : Thresholds) {v v' : Float} (is_max : Bool) → Near v v' → strong_of th v is_max ≡ strong_of th v' is_max
unfolding strong_of
strong~ th true h = lt~ same h
strong~ th false h = lt~ h same

gate~ : (p : Prims) → Allowed p → (th : Thresholds) (l k : List Float) (s : Float) {v v' : Float} (is_max : Bool) → Near v v' → gate_by p th l k s v is_max ≡ gate_by ours th l k s v' is_max
unfolding gate_by
gate~ p A th l k s is_max h = rw (strong~ th is_max h, owns~ p A l is_max)

all~ : (n i : ℕ) {f f' : ℕ → Bool} → ((j : ℕ) → f j ≡ f' j) → all_of n i f ≡ all_of n i f'
unfolding all_of
all~ zero i h = refl
all~ (suc n) i h = rw (h i, all~ n (suc i) h)

module _ (P : ℕ → Prims) (A : (i : ℕ) → Allowed (P i)) where
  beats~ : (k : List (List Float)) {v v' : Float} {b b' : Band} (is_max : Bool) (i : ℕ) → Near v v' → BandNear b b' →
      beats_by P k v b is_max i ≡ beats_by (λ i. ours) k v' b' is_max i
  unfolding beats_by
  beats~ k true i h B = rw (lt~ (extreme~ (P i) (A i) (get_or k i []) true B.low B.high) h)
  beats~ k false i h B = rw (lt~ h (extreme~ (P i) (A i) (get_or k i []) false B.low B.high))

  ring~ : (k : List (List Float)) {v v' : Float} {b b' : Band} (is_max : Bool) → Near v v' → BandNear b b' → ring_by P k v b is_max ≡ ring_by (λ i. ours) k v' b' is_max
  unfolding ring_by
  ring~ k is_max h B = all~ 9 0 (λ j. beats~ k is_max j h B)

-- ---- the record

-- a zero's sign is not kept in a displacement
kept~ : {d d' : Float} → Near d d' → kept_of d ≡ kept_of d'
unfolding kept_of
kept~ same = refl
kept~ (zeros {s = s} {t = t}) = rw (zero_eq_zero s (pos 0), zero_eq_zero t (pos 0))

record~ : {a b : Spot} (l : List Float) (key : ℕ) → SpotNear a b → RecordNear (record_of a l key) (record_of b l key)
unfolding record_of
record~ l key S = record {
  x = S.x;
  y = S.y;
  sigma = S.sigma;
  peak = S.peak;
  s0 = refl;
  s1 = refl;
  s2 = refl;
  s3 = refl;
  key = refl;
  octave = S.octave;
  index = S.index;
  polarity = rw S.max;
  spare = refl;
  dx = kept~ S.dx;
  dy = kept~ S.dy;
}

-- the join reads both or neither
pub readable~ : (rows cols : ℕ) {a b : Record} → RecordNear a b → readable rows cols a ≡ readable rows cols b
unfolding readable finite_record
readable~ rows cols R = rw (R.x, R.y, R.sigma, fin~ R.peak, R.s0, R.s1, R.s2, R.s3, R.key, R.octave, R.index, R.polarity, R.spare, R.dx, R.dy)

admit~ : (f : Frame) (l : List Float) (key : ℕ) {a b : (Option Spot)} → RefinedNear a b → VerdictNear (admit_of f l key a) (admit_of f l key b)
unfolding admit_of
admit~ f l key rejected = nothing
admit~ f l key (accepted S) = let R = record~ l key S in chosen~ VerdictNear (readable~ f.rows f.cols R) (listed R) nothing

anchor~ : (row col : ℕ) (sigma : Float) {v v' : Float} (octave : ℕ) (is_max : Bool) → Near v v' → SpotNear (anchor_of row col sigma v octave is_max) (anchor_of row col sigma v' octave is_max)
unfolding anchor_of
anchor~ row col sigma octave is_max h = record { x = refl; y = refl; sigma = refl; peak = h; octave = refl; index = refl; max = refl; dx = same; dy = same }

-- ---- the whole

module _ (P : ℕ → Prims) (A : (i : ℕ) → Allowed (P i)) (s : Set) (th : Thresholds) (f : Frame) (nine : List (List Float)) (row col : ℕ) where
  refined~ : (sigma : Float) {v v' : Float} (is_max : Bool) → Near v v' →
      let k = cubics_of s.scale nine in
      RefinedNear (refine_by (P 4) s th.ratio k (anchor_of row col sigma v f.octave is_max)) (refine_by ours s th.ratio k (anchor_of row col sigma v' f.octave is_max))
  unfolding anchor_of
  refined~ sigma is_max h = refine~ (P 4) (A 4) s th.ratio (cubics_of s.scale nine) (anchor~ row col sigma f.octave is_max h) (whole_add~ col) (whole_add~ row)

  from : (is_max : Bool) {sigma sigma' v v' : Float} → sigma ≡ sigma' → Near v v' →
      let k = cubics_of s.scale nine in
      let l = get_or nine 4 [] in
      VerdictNear
      (cond
      (whole_of nine && gate_by (P 4) th l (get_or k 4 []) sigma v is_max && ring_by P k v (band_by (P 4) s.sigmas sigma) is_max)
      (admit_of f l (row * f.cols + col) (refine_by (P 4) s th.ratio k (anchor_of row col sigma v f.octave is_max)))
      None)
      (cond
      (whole_of nine && gate_by ours th l (get_or k 4 []) sigma' v' is_max && ring_by (λ i. ours) k v' (band_by ours s.sigmas sigma') is_max)
      (admit_of f l (row * f.cols + col) (refine_by ours s th.ratio k (anchor_of row col sigma' v' f.octave is_max)))
      None)
  from is_max {sigma = sigma} e h =
      let k = cubics_of s.scale nine in
      let l = get_or nine 4 [] in
      rw (← e)
      (chosen~ VerdictNear
      (and~ (and~ {a = whole_of nine} refl (gate~ (P 4) (A 4) th l (get_or k 4 []) sigma is_max h)) (ring~ P A k is_max h (band~ (P 4) (A 4) s.sigmas sigma)))
      (admit~ f l (row * f.cols + col) (refined~ sigma is_max h))
      nothing)

  -- any allowed choice of zeros gives this build's verdict, but for the sign of a zero peak
  pub verdict~ : (is_max : Bool) → VerdictNear (verdict_by P s th f nine row col is_max) (verdict_of s th f nine row col is_max)
  unfolding verdict_by sigma_of peak_of
  verdict~ true = let e = shape~ (P 4) (A 4) (get_or (cubics_of s.scale nine) 4 []) s.sigmas (get_or nine 4 [] at 0) (get_or nine 4 [] at 3) in from true e.smax e.emax
  verdict~ false = let e = shape~ (P 4) (A 4) (get_or (cubics_of s.scale nine) 4 []) s.sigmas (get_or nine 4 [] at 0) (get_or nine 4 [] at 3) in from false e.smin e.emin
