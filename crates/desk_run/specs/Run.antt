-- What a run from a slot answers, and what it leaves in the buffer, as one value of its input. Definitions only.
use Rattle.std.specs.Prelude.{ℕ, not, List, ◌∷◌, length, Float}
use Rattle.tables.specs.declared.Thresholds.{Thresholds}
use Rattle.tables.specs.declared.Refusal.TheVariants.{NotYours}
use Rattle.tables.specs.Refusal.{Check, ◌when◌, first_of}
use Rattle.checks.specs.Checks.{detect_checks}
use Rattle.samples.specs.Level.{maps_of}
use Rattle.detect.specs.Detect.{Outcome, detected}
use Rattle.desks.specs.Table.{slot_of, set_in, runnable}

-- a run's checks, in its order. 11: the table's length, the slot, or one that neither desk owns; then detection's own, with the set found in the slot
unfoldable pub run_checks : List ℕ → ℕ → Thresholds → ℕ → ℕ → ℕ → ℕ → ℕ → ℕ → ℕ → List Check
run_checks t i th rows cols octave n0 n1 n2 n3 = (NotYours when not (runnable t i)) ∷ detect_checks n0 n1 n2 n3 rows cols octave th (set_in (slot_of t i))

-- the whole of a run: detection's answer and buffer with the set found in the slot
unfoldable pub run_of : List ℕ → ℕ → Thresholds → ℕ → ℕ → ℕ → List Float → List Float → List Float → List Float → List ℕ → Outcome
run_of t i th rows cols octave l0 l1 l2 l3 out =
    detected (first_of (run_checks t i th rows cols octave (length l0) (length l1) (length l2) (length l3)))
    (maps_of l0 l1 l2 l3 (record { rows = rows; cols = cols; octave = octave }) (set_in (slot_of t i)) th) out
