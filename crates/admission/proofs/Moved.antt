-- A listed record's place is its own pixel plus its displacement, rounded once, and the displacement is at most 0.6 in size each way, so that a reader can check both.
-- Assumes nothing: a zero's sign does not show in a sum with a whole number, so that the displacement as kept gives the same sum as the one computed.
use Prim.Native.Nat.{ℕ, zero, suc, ◌/◌, ◌%◌}
use native.Mathlib.Nat.{zero-mul}
use mathlib.Core.Path.{◌≡◌, refl, ◌∙◌}
use mathlib.Core.Bool.{Bool}
use mathlib.Core.List.{List}
use lib.IntN.{ℤ, pos}
use lib.Dec.{T}
use lib.Ieee.{Float, nan, inf, fin, binary32, fits, of_bits, eq, up, down}
use lib.Ieee.Fits.{div-fits}
use lib.Ieee.Back.{whole_unique}
use Rattle.float.specs.Num.{f0}
use Rattle.float.proofs.Floats.{eq-zero, zero_eq_zero}
use Rattle.moves.specs.Moves.{kept_of}
use Rattle.moves.proofs.MovesLaws.{kept-nearby, kept_positive, zero_kept, other_kept}
use Rattle.tables.specs.declared.Set.{Set}
use Rattle.tables.specs.declared.Thresholds.{Thresholds}
use Rattle.fit.specs.Near.{Near, same, zeros}
use Rattle.refine.specs.Refine.{delta_xOf, delta_yOf}
use Rattle.refine.proofs.RefineLaws.{accepted_displaced}
use Rattle.record.specs.declared.Record.{Record}
use Rattle.pixel.specs.declared.Frame.{Frame}
use Rattle.pixel.specs.Verdict.{anchor_of, record_of}
use Rattle.pixel.specs.Rules.{Admits}
use Rattle.samples.specs.Level.{Maps}
use Rattle.detect.specs.Due.{due}
use Rattle.demands.specs.List.{Stands}
use Rattle.demands.proofs.Listed.{list_is, own_key}
use Rattle.zeros.proofs.NearLaws.{whole_add~}
use Rattle.admission.specs.Place.{Moved}

-- ---- a displacement as it is kept

plain_fits : (s : Bool) → T (fits binary32 (fin s 0 (pos 0)))
unfolding fits
plain_fits s = tt

-- a zero that fits is written one way
one_zero : (s : Bool) (e : ℤ) → T (fits binary32 (fin s zero e)) → fin s zero e ≡ fin s 0 (pos 0)
one_zero s e h = whole_unique binary32 (fin s zero e) (fin s 0 (pos 0)) s 0 h (plain_fits s) (refl, rw (zero-mul (up e), zero-mul (down e))) (refl, refl)

-- it differs at most in the sign of a zero
near-kept : (d : Float) → T (fits binary32 d) → Near d (kept_of d)
unfolding kept_of eq of_bits
near-kept nan h = same
near-kept (inf s) h = same
near-kept (fin s zero e) h = rw (zero_kept (fin s zero e) (zero_eq_zero s e), one_zero s e h) zeros
near-kept (fin s (suc m) e) h = rw (other_kept (fin s (suc m) e) (eq-zero s m e)) same

-- ---- a record

-- A record that a pixel meets the rules with is the pixel moved.
pub admitted_moved : (s : Set) (th : Thresholds) (f : Frame) (nine : List (List Float)) (row col : ℕ) (is_max : Bool) (r : Record) → Admits s th f nine row col is_max r → Moved row col r
unfolding anchor_of record_of delta_xOf delta_yOf
admitted_moved s th f nine row col is_max r a =
    let place = accepted_displaced _ s th.ratio _ _ a.spot a.refinement in
    rw a.record_of_spot (record {
      x = place.x ∙ rw place.dx-is (whole_add~ col _ _ (near-kept _ (div-fits binary32 _ _)));
      y = place.y ∙ rw place.dy-is (whole_add~ row _ _ (near-kept _ (div-fits binary32 _ _)));
      x-passes = rw place.dx-is (kept-nearby _ place.x-passes);
      y-passes = rw place.dy-is (kept-nearby _ place.y-passes);
      x_zero = kept_positive a.spot.dx;
      y_zero = kept_positive a.spot.dy;
    })

-- So it is with each listed record, whose key tells the pixel, whatever the map.
pub listed-moved : (m : Maps) (r : Record) → Stands (due m) r → Moved (r.key / m.frame.cols) (r.key % m.frame.cols) r
listed-moved m r h =
    let a = (list_is m r).0 h in
    let own = (own_key m a.row a.col a.is_max r a.judged a.rules).1 in
    rw (own.row_is, own.col-is) (admitted_moved m.set m.thresholds m.frame _ a.row a.col a.is_max r a.rules)
