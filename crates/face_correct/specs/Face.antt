-- What the correction's face answers, and what it leaves in the lent float, as one value of its input. Definitions only.
use Rattle.std.specs.Prelude.{ℕ, Bool, List, Float, Result, Ok, Err}
use Rattle.tables.specs.Refusal.{value, read_or_blank}
use Rattle.tables.specs.declared.Refusal.{Refusal}
use Rattle.size.specs.Correct.{correct_of}
use Rattle.face.specs.Face.{answer_number}

-- 0, or the refusal's number
abbrev pub size_number : Result Float Refusal → ℕ
size_number = answer_number

-- the corrected sigma; a refusal leaves what was there before
unfoldable pub size_after : Result Float Refusal → Float → Float
size_after (Ok sigma) before = sigma
size_after (Err w) before = before

-- 0 beside a size, else the value that goes with the refusal: of 7 its cause
unfoldable pub size_cause : Result Float Refusal → ℕ
size_cause (Ok sigma) = 0
size_cause (Err w) = value w

-- what a call of the correction leaves: its number, its cause, and the lent float
pub record SizeLeft : Type 0 where
  pub number : ℕ
  pub cause : ℕ
  pub corrected : Float

-- these three, given one by one
abbrev pub size_left : ℕ → ℕ → Float → SizeLeft
size_left n v x = record { number = n; cause = v; corrected = x }

-- the correction under the set that the record holds
unfoldable pub correct_face : List ℕ → List Float → Float → Bool → Float → SizeLeft
correct_face set samples sigma is_max before =
    let answer = correct_of (read_or_blank set) samples sigma is_max in
    size_left (size_number answer) (size_cause answer) (size_after answer before)
