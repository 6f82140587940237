-- How many octaves a map has, a level halved, and what halving answers, refusals too. Definitions only.
use Rattle.std.specs.Prelude.{ℕ, ◌+◌, ◌*◌, ◌/◌, ◌≤◌, min, cond, not, ◌||◌, List, [], ◌∷◌, length, get_or, ltb, leb, eqb, Float, Result, Ok, Err, ⊤}
use Rattle.std.specs.Float.{nan}
use Rattle.tables.specs.Refusal.{Check, ◌when◌, first_of, sides_check}
use Rattle.tables.specs.declared.Refusal.{Refusal}
use Rattle.tables.specs.declared.Refusal.TheVariants.{Level, Room}
use Rattle.grid.specs.Grid.{pixel_at, columns_of, at_start}

-- ---- the octave count

-- by shortest side d: under 10 gives 0; to 64, 1; to 128, 2; to 256, 3; to 512, 4; to 1,024, 5; above, 6
unfoldable pub octaves_of : ℕ → ℕ
octaves_of d =
    cond (ltb d 10) 0
    (cond (leb d 64) 1 (cond (leb d 128) 2 (cond (leb d 256) 3 (cond (leb d 512) 4 (cond (leb d 1024) 5 6)))))

-- that of a map, by its shortest side
unfoldable pub octave_count_of : ℕ → ℕ → ℕ
octave_count_of rows cols = octaves_of (min rows cols)

-- ---- a level halved

-- half a side, rounded down; a side under 2, this one or the other, gives 0
unfoldable pub half_of : ℕ → ℕ → ℕ
half_of side other = cond (ltb side 2 || ltb other 2) 0 (side / 2)

-- every second of a level's floats from place p on
abbrev pub second_of : List Float → ℕ → ℕ → Float
second_of l p r = get_or l (p + 2 * r) nan

-- pixel (r, c) of the halved level is the level's (2r, 2c)
abbrev pub taken_of : List Float → ℕ → ℕ → ℕ → Float
taken_of l rows r c = pixel_at l rows (2 * r) (2 * c)

-- the halved level: rows/2 by cols/2, rounded down; a side under 2 gives 0 by 0
unfoldable pub halved_of : ℕ → ℕ → List Float → List Float
halved_of rows cols l = columns_of (taken_of l rows) (half_of rows cols) (half_of cols rows)

-- how many floats the halved level needs
unfoldable pub needed : ℕ → ℕ → ℕ
needed rows cols = half_of rows cols * half_of cols rows

-- a level of n floats has all pixels that are taken, and a buffer of room floats has place for them; a side is at most 4,096
pub record Halves (n room rows height width : ℕ) : Type 0 where
  pub tall : 2 * height ≤ rows
  pub wide : 2 * width ≤ 4096
  pub inside : 2 * width * rows ≤ n
  pub most : n ≤ 16777216
  pub fits : width * height ≤ room

-- ---- refusals

-- the checks of downsample in its order, for a level of n floats and a buffer of room floats. 1: a side is too long; 2: the level is not rows*cols long;
-- 6: the buffer is shorter than needed
unfoldable pub downsample_checks : ℕ → ℕ → ℕ → ℕ → List Check
downsample_checks n room rows cols = sides_check rows cols ∷ (Level when not (eqb n (rows * cols))) ∷ (Room when ltb room (needed rows cols)) ∷ []

-- ---- the whole

-- an answer, and the whole buffer after it
pub record Outcome : Type 0 where
  pub answer : Result (ℕ × ℕ) Refusal
  pub buffer : List Float

-- these two, given one by one
abbrev pub outcome : Result (ℕ × ℕ) Refusal → List Float → Outcome
outcome a b = record { answer = a; buffer = b }

-- a refusal writes nothing; otherwise the new sides are answered, the halved level is written, and what lies past it is kept
unfoldable pub downsampled : Result ⊤ Refusal → ℕ → ℕ → List Float → List Float → Outcome
downsampled (Err r) rows cols l out = outcome (Err r) out
downsampled (Ok _) rows cols l out = outcome (Ok (half_of rows cols, half_of cols rows)) (at_start (halved_of rows cols l) out)

-- the whole of downsample
unfoldable pub downsample_of : ℕ → ℕ → List Float → List Float → Outcome
downsample_of rows cols l out = downsampled (first_of (downsample_checks (length l) (length out) rows cols)) rows cols l out
