-- The list that is due for four levels. Definitions only.
use Rattle.std.specs.Prelude.{ℕ, zero, suc, ◌+◌, ◌-◌, Bool, true, false, List, [], ◌++◌, Option}
use Rattle.record.specs.declared.Record.{Record}
use Rattle.pixel.specs.Verdict.{verdict_of}
use Rattle.pixel.specs.Listed.{listed}
use Rattle.samples.specs.Level.{Maps, nine_at}

-- the verdict on a pixel of the map at one polarity
unfoldable pub judge_of : Maps → ℕ → ℕ → Bool → Option Record
judge_of m row col is_max = verdict_of m.set m.thresholds m.frame (nine_at m row col) row col is_max

-- what one pixel lists: the minimum before the maximum
unfoldable pub pixel_due : Maps → ℕ → ℕ → List Record
pixel_due m row col = listed (judge_of m row col false) ++ listed (judge_of m row col true)

-- what the first n judged pixels of a row list: those at the cols 4 to n + 3
unfoldable pub row_due : Maps → ℕ → ℕ → List Record
row_due m row zero = []
row_due m row (suc n) = row_due m row n ++ pixel_due m row (n + 4)

-- what the first n judged rows list: rows 4 to n + 3, in each the cols 4 to cols-5; a side of 8 or less has none
unfoldable pub rows_due : Maps → ℕ → List Record
rows_due m zero = []
rows_due m (suc n) = rows_due m n ++ row_due m (n + 4) (m.frame.cols - 8)

-- the whole list
unfoldable pub due : Maps → List Record
due m = rows_due m (m.frame.rows - 8)
