-- The list that is due where min, max and the sums choose their zeros freely. Definitions only.
use Rattle.std.specs.Prelude.{ℕ, zero, suc, ◌+◌, ◌-◌, Bool, true, false, List, [], ◌++◌, Option}
use Rattle.record.specs.declared.Record.{Record}
use Rattle.fit.specs.Prims.{Prims, Allowed, ours}
use Rattle.pixel.specs.Verdict.{verdict_by}
use Rattle.samples.specs.Level.{Maps, nine_at}
use Rattle.pixel.specs.Listed.{listed}

-- the choices at the i-th of the nine places of the pixel (row, col), at a polarity
abbrev pub Choices : Type 0
Choices = (row col : ℕ) (is_max : Bool) (i : ℕ) → Prims

-- each keeps the numbers
abbrev pub AllAllowed : Choices → Type 0
AllAllowed P = (row col : ℕ) (is_max : Bool) (i : ℕ) → Allowed (P row col is_max i)

-- this build's at every call
abbrev pub all_ours : Choices
all_ours = λ row col is_max i. ours

-- the verdict on a pixel of the map at one polarity
unfoldable pub judge_by : Choices → Maps → ℕ → ℕ → Bool → Option Record
judge_by P m row col is_max = verdict_by (P row col is_max) m.set m.thresholds m.frame (nine_at m row col) row col is_max

-- what one pixel lists: the minimum before the maximum
unfoldable pub pixel_due_by : Choices → Maps → ℕ → ℕ → List Record
pixel_due_by P m row col = listed (judge_by P m row col false) ++ listed (judge_by P m row col true)

-- what the first n judged pixels of a row list
unfoldable pub row_due_by : Choices → Maps → ℕ → ℕ → List Record
row_due_by P m row zero = []
row_due_by P m row (suc n) = row_due_by P m row n ++ pixel_due_by P m row (n + 4)

-- what the first n judged rows list
unfoldable pub rows_due_by : Choices → Maps → ℕ → List Record
rows_due_by P m zero = []
rows_due_by P m (suc n) = rows_due_by P m n ++ row_due_by P m (n + 4) (m.frame.cols - 8)

-- the whole list
unfoldable pub due_by : Choices → Maps → List Record
due_by P m = rows_due_by P m (m.frame.rows - 8)
