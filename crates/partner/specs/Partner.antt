-- What the reader of a partner's list answers, as one value of its input. Definitions only.
use Rattle.std.specs.Prelude.{ℕ, false, List, ◌++◌, length, Float, Result, Ok, Err, ⊤}
use Rattle.tables.specs.declared.Set.{Set}
use Rattle.follow.specs.declared.Finding.{Finding}
use Rattle.tables.specs.declared.Refusal.{Refusal}
use Rattle.tables.specs.declared.Thresholds.{Thresholds}
use Rattle.tables.specs.Refusal.{Check, first_of}
use Rattle.checks.specs.Checks.{detect_checks}
use Rattle.record.specs.declared.Record.{Record}
use Rattle.join.specs.Join.{records_checks}
use Rattle.samples.specs.Level.{maps_of}
use Rattle.detect.specs.Due.{due}
use Rattle.follow.specs.Follow.{finding_of}

-- the reader's checks: detection's, then those of the list's records, each of them, however far behind the first difference
unfoldable pub partner_checks : ℕ → ℕ → ℕ → ℕ → ℕ → ℕ → ℕ → Thresholds → Set → List ℕ → List Check
partner_checks n0 n1 n2 n3 rows cols octave th s b = detect_checks n0 n1 n2 n3 rows cols octave th s ++ records_checks false rows cols b

-- a refusal comes before any finding
unfoldable pub replied_of : Result ⊤ Refusal → List Record → List ℕ → Result Finding Refusal
replied_of (Err r) ds b = Err r
replied_of (Ok _) ds b = Ok (finding_of ds b)

-- the reader: what is found of the list b beside detection's due list
unfoldable pub partner_of : Set → Thresholds → ℕ → ℕ → ℕ → List Float → List Float → List Float → List Float → List ℕ → Result Finding Refusal
partner_of s th rows cols octave l0 l1 l2 l3 b =
    replied_of (first_of (partner_checks (length l0) (length l1) (length l2) (length l3) rows cols octave th s b))
    (due (maps_of l0 l1 l2 l3 (record { rows = rows; cols = cols; octave = octave }) s th)) b
