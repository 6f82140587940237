-- What detection answers, and what it leaves in the buffer, as one value of its input. Definitions only.
use Rattle.std.specs.Prelude.{ℕ, List, length, Float, Result, Ok, Err, ⊤}
use Rattle.tables.specs.declared.Set.{Set}
use Rattle.tables.specs.declared.Refusal.{Refusal}
use Rattle.tables.specs.declared.Thresholds.{Thresholds}
use Rattle.tables.specs.Refusal.{first_of}
use Rattle.checks.specs.Checks.{detect_checks}
use Rattle.record.specs.Layout.{laid}
use Rattle.samples.specs.Level.{Maps, maps_of}
use Rattle.detect.specs.Due.{due}

-- an answer, and the whole buffer after it
pub record Outcome : Type 0 where
  pub answer : Result ℕ Refusal
  pub buffer : List ℕ

-- these two, given one by one
abbrev pub outcome : Result ℕ Refusal → List ℕ → Outcome
outcome a b = record { answer = a; buffer = b }

-- a refusal writes nothing; otherwise the full count is answered, and as many whole records as fit are written, first ones first
unfoldable pub detected : Result ⊤ Refusal → Maps → List ℕ → Outcome
detected (Err r) m out = outcome (Err r) out
detected (Ok _) m out = outcome (Ok (length (due m))) (laid (due m) out)

-- the whole of detection
unfoldable pub detect_of : Set → Thresholds → ℕ → ℕ → ℕ → List Float → List Float → List Float → List Float → List ℕ → Outcome
detect_of s th rows cols octave l0 l1 l2 l3 out =
    detected (first_of (detect_checks (length l0) (length l1) (length l2) (length l3) rows cols octave th s))
    (maps_of l0 l1 l2 l3 (record { rows = rows; cols = cols; octave = octave }) s th) out
