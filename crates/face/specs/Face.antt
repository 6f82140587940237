-- What the faces share: a number with its value, what a call leaves, the thresholds as one value, and an answer as a number and a value. Definitions only.
use Rattle.std.specs.Prelude.{ℕ, List, Float, Result, Ok, Err}
use Rattle.tables.specs.declared.Set.{Set}
use Rattle.tables.specs.declared.Unread.{Unread}
use Rattle.tables.specs.declared.Thresholds.{Thresholds}
use Rattle.tables.specs.declared.Refusal.{Refusal}
use Rattle.tables.specs.Refusal.{number, value}

-- a number, and the value beside it
pub record Packed : Type 0 where
  pub number : ℕ
  pub value : ℕ

-- what a call leaves: its number, its value, and the whole buffer
pub record Left : Type 0 where
  pub number : ℕ
  pub value : ℕ
  pub buffer : List ℕ

-- these three, given one by one
abbrev pub left : ℕ → ℕ → List ℕ → Left
left n v b = record { number = n; value = v; buffer = b }

-- the five thresholds as one value
abbrev pub thresholds_of : Float → Float → Float → Float → Float → Thresholds
thresholds_of peak sigma ratio low high = record { peak = peak; sigma = sigma; ratio = ratio; low = low; high = high }

-- the number of an answer: 0, or that of the refusal
abbrev pub answer_number : {A : Type 0} → Result A Refusal → ℕ
answer_number (Ok _) = 0
answer_number (Err w) = number w

-- its value: the count, or the value that goes with the refusal
abbrev pub answer_value : Result ℕ Refusal → ℕ
answer_value (Ok n) = n
answer_value (Err w) = value w

-- both of an answer that counts
abbrev pub answer_packed : Result ℕ Refusal → Packed
answer_packed a = record { number = answer_number a; value = answer_value a }

-- the number of a record's reading: 0, or that of the refusal
abbrev pub check_face : Result Set Unread → ℕ
check_face (Ok _) = 0
check_face (Err w) = number w.why
