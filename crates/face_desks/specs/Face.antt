-- What the desks' face answers, and what it leaves of the table and in the buffer, as one value of its input. Definitions only.
use Rattle.std.specs.Prelude.{ℕ, List, Float, Result, ⊤}
use Rattle.tables.specs.declared.Thresholds.{Thresholds}
use Rattle.tables.specs.declared.Refusal.{Refusal}
use Rattle.desks.specs.Desks.{Act, Outcome, call_of}
use Rattle.desk_run.specs.Run.{run_of}
use Rattle.face.specs.Face.{Left, answer_number}
use Rattle.face_detect.specs.Face.{left_by}

-- 0, or the refusal's number
abbrev pub told_number : Result ⊤ Refusal → ℕ
told_number = answer_number

-- what a call of a desk leaves: its number, and the whole table
pub record TableLeft : Type 0 where
  pub number : ℕ
  pub table : List ℕ

-- these two, given one by one
abbrev pub table_left : ℕ → List ℕ → TableLeft
table_left n t = record { number = n; table = t }

-- what an outcome of a call leaves
abbrev pub table_left_by : Outcome → TableLeft
table_left_by o = table_left (told_number o.answer) o.table

-- a desk's call
unfoldable pub call_face : Act → List ℕ → ℕ → ℕ → TableLeft
call_face act t desk slot = table_left_by (call_of act t desk slot)

-- a run from a slot
unfoldable pub run_face : List ℕ → ℕ → Thresholds → ℕ → ℕ → ℕ → List Float → List Float → List Float → List Float → List ℕ → Left
run_face t slot th rows cols octave l0 l1 l2 l3 out = left_by (run_of t slot th rows cols octave l0 l1 l2 l3 out)
