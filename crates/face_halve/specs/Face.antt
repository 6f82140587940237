-- What downsample's face answers, and what it leaves in the buffer and the two lent sides, as one value of its input. Definitions only.
use Rattle.std.specs.Prelude.{ℕ, List, Float, Result, Ok, Err}
use Rattle.tables.specs.declared.Refusal.{Refusal}
use Rattle.pyramid.specs.Pyramid as pyramid
use Rattle.face.specs.Face.{answer_number}

-- 0, or the refusal's number
abbrev pub halved_number : Result (ℕ × ℕ) Refusal → ℕ
halved_number = answer_number

-- the new rows; a refusal leaves what was there before
unfoldable pub rows_after : Result (ℕ × ℕ) Refusal → ℕ → ℕ
rows_after (Ok (rows, cols)) before = rows
rows_after (Err w) before = before

-- the new cols; a refusal leaves what was there before
unfoldable pub cols_after : Result (ℕ × ℕ) Refusal → ℕ → ℕ
cols_after (Ok (rows, cols)) before = cols
cols_after (Err w) before = before

-- what a call of downsample leaves: its number, the two lent sides, and the whole buffer
pub record HalvedLeft : Type 0 where
  pub number : ℕ
  pub rows : ℕ
  pub cols : ℕ
  pub buffer : List Float

-- these four, given one by one
abbrev pub halved_left : ℕ → ℕ → ℕ → List Float → HalvedLeft
halved_left n rows cols b = record { number = n; rows = rows; cols = cols; buffer = b }

-- a level halved
unfoldable pub downsample_face : ℕ → ℕ → List Float → List Float → ℕ → ℕ → HalvedLeft
downsample_face rows cols level out halfrows halfcols =
    let after = pyramid.downsample_of rows cols level out in
    halved_left (halved_number after.answer) (rows_after after.answer halfrows) (cols_after after.answer halfcols) after.buffer
