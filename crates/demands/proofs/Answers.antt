-- Demand 3 in detection's own answers. Assumes nothing.
use Rattle.std.specs.Prelude.{Result, Ok, Err, ⊤}
use Prim.Native.Nat.{ℕ}
use mathlib.Core.Path.{◌≡◌, refl}
use mathlib.Core.Bool.{Bool}
use mathlib.Core.List.{List}
use lib.Ieee.{Float}
use Rattle.tables.specs.declared.Set.{Set}
use Rattle.tables.specs.declared.Refusal.{Refusal}
use Rattle.tables.specs.declared.Thresholds.{Thresholds}
use Rattle.samples.specs.Level.{Maps, maps_of}
use Rattle.detect.specs.Due.{due}
use Rattle.detect.specs.Detect.{detected, detect_of}
use Rattle.demands.specs.TwoMaps.{spared, Lossy, Struck, lists}
use Rattle.demands.proofs.TwoMaps.{two_maps}

-- a call that is not refused lists what is due
pub answered : (c : Result ⊤ Refusal) (m : Maps) (out : List ℕ) (n : ℕ) → (detected c m out).answer ≡ Ok n → detected c m out ≡ lists (due m) out
unfolding detected
answered (Ok _) m out n h = refl
answered (Err why) m out n h = cc

-- Where neither of two calls is refused, the second, whose map lost pixels, answers the count of the first's records that have no lost pixel among their 21, and lays just these.
pub two_answers : (lost : ℕ → ℕ → Bool) (s : Set) (th : Thresholds) (rows cols octave : ℕ) (a0 a1 a2 a3 b0 b1 b2 b3 : List Float)
    → Lossy lost (maps_of a0 a1 a2 a3 (record { rows = rows; cols = cols; octave = octave }) s th)
    (maps_of b0 b1 b2 b3 (record { rows = rows; cols = cols; octave = octave }) s th)
    → (out out' : List ℕ) (n n' : ℕ)
    → (detect_of s th rows cols octave a0 a1 a2 a3 out).answer ≡ Ok n
    → (detect_of s th rows cols octave b0 b1 b2 b3 out').answer ≡ Ok n'
    → Struck (spared lost cols) (due (maps_of a0 a1 a2 a3 (record { rows = rows; cols = cols; octave = octave }) s th)) out out'
    (detect_of s th rows cols octave a0 a1 a2 a3 out) (detect_of s th rows cols octave b0 b1 b2 b3 out')
unfolding detect_of
two_answers lost s th rows cols octave a0 a1 a2 a3 b0 b1 b2 b3 h out out' n n' first second = record {
  whole = answered _ _ out n first;
  kept = rw (← two_maps lost (record { rows = rows; cols = cols; octave = octave }) s th a0 a1 a2 a3 b0 b1 b2 b3 h) (answered _ _ out' n' second);
}
