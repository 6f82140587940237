-- What becomes of the bytes of the lent buffer in a call of detection.
use Rattle.std.specs.Prelude.{Result, Ok, Err, ⊤}
use Prim.Native.Nat.{ℕ, ◌*◌, ◌/◌, ◌≤◌}
use mathlib.Core.List.{List}
use mathlib.Core.Path.{◌≡◌, refl}
use lib.ListN.{length, get_or, take}
use lib.Ieee.{Float}
use Rattle.tables.specs.declared.Set.{Set}
use Rattle.tables.specs.declared.Refusal.{Refusal}
use Rattle.tables.specs.declared.Thresholds.{Thresholds}
use Rattle.record.specs.declared.Record.{Record}
use Rattle.record.specs.Layout.{spot_width, bytes_of, written}
use Rattle.record.proofs.LayoutLaws.{length-laid, laid-first, laid_keeps}
use Rattle.samples.specs.Level.{Maps, maps_of}
use Rattle.detect.specs.Due.{due}
use Rattle.detect.specs.Detect.{Outcome, detected, detect_of}

-- ---- over the outcome of the checks

detected-length : (w : Result ⊤ Refusal) (m : Maps) (out : List ℕ) → length (detected w m out).buffer ≡ length out
unfolding detected
detected-length (Err r) m out = refl
detected-length (Ok _) m out = length-laid (due m) out

detected_keeps : (w : Result ⊤ Refusal) (m : Maps) (out : List ℕ) (i : ℕ) → written (due m) out * spot_width ≤ i → get_or (detected w m out).buffer i 0 ≡ get_or out i 0
unfolding detected
detected_keeps (Err r) m out i h = refl
detected_keeps (Ok _) m out i h = laid_keeps (due m) out i h

detected-first : (w : Result ⊤ Refusal) (m : Maps) (out : List ℕ) (n : ℕ) → (detected w m out).answer ≡ Ok n
    → (n ≡ length (due m)) × (take (written (due m) out * spot_width) (detected w m out).buffer ≡ bytes_of (take (length out / spot_width) (due m)))
unfolding detected
detected-first (Err r) m out n e = (cc, cc)
detected-first (Ok _) m out n e = (cc, laid-first (due m) out)

detected-answer : (w : Result ⊤ Refusal) (m : Maps) (out out' : List ℕ) → (detected w m out).answer ≡ (detected w m out').answer
unfolding detected
detected-answer (Err r) m out out' = refl
detected-answer (Ok _) m out out' = refl

-- ---- a call

module _ (s : Set) (th : Thresholds) (rows cols octave : ℕ) (l0 l1 l2 l3 : List Float) (out : List ℕ) where
  abbrev found : List Record
  found = due (maps_of l0 l1 l2 l3 (record { rows = rows; cols = cols; octave = octave }) s th)

  abbrev after : Outcome
  after = detect_of s th rows cols octave l0 l1 l2 l3 out

  -- the answer does not depend on the buffer: a short one is no refusal, and the full count is answered
  pub answer-same : (out' : List ℕ) → after.answer ≡ (detect_of s th rows cols octave l0 l1 l2 l3 out').answer
  unfolding detect_of
  answer-same out' = detected-answer _ _ out out'

  -- the buffer keeps its length
  pub length-kept : length after.buffer ≡ length out
  unfolding detect_of
  length-kept = detected-length _ _ out

  -- what is found is the whole list, and as many whole records as fit are written, first ones first
  pub first-written : (n : ℕ) → after.answer ≡ Ok n
      → (n ≡ length found) × (take (written found out * spot_width) after.buffer ≡ bytes_of (take (length out / spot_width) found))
  unfolding detect_of
  first-written n e = detected-first _ _ out n e

  -- all later bytes are kept
  pub later_kept : (i : ℕ) → written found out * spot_width ≤ i → get_or after.buffer i 0 ≡ get_or out i 0
  unfolding detect_of
  later_kept i h = detected_keeps _ _ out i h
