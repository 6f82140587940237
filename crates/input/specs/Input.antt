-- The input's layout, and its checks. Definitions only.
use Rattle.std.specs.Prelude.{ℕ, ◌+◌, ◌*◌, not, ◌||◌, List, [], ◌∷◌, ◌++◌, length, take, drop, replicate, ltb, eqb, Float}
use Rattle.std.specs.Float.{binary32}
use Rattle.std.specs.Float.Ieee.{of_bits}
use Rattle.tables.specs.declared.Set.{Set}
use Rattle.tables.specs.declared.Thresholds.{Thresholds}
use Rattle.tables.specs.declared.Refusal.TheVariants.{Size, Level}
use Rattle.tables.specs.Refusal.{Check, ◌when◌, read_or_blank}
use Rattle.words.specs.Words.{word_from, float_from, floats_at}

-- the set, in the first 528 bytes
abbrev pub set_from : List ℕ → Set
set_from b = read_or_blank (take 528 b)

-- five thresholds
abbrev pub thresholds_from : List ℕ → Thresholds
thresholds_from b = record { peak = float_from b 528; sigma = float_from b 532; ratio = float_from b 536; low = float_from b 540; high = float_from b 544 }

-- rows
abbrev pub rows_from : List ℕ → ℕ
rows_from b = word_from b 548

-- cols
abbrev pub cols_from : List ℕ → ℕ
cols_from b = word_from b 552

-- octave
abbrev pub octave_from : List ℕ → ℕ
octave_from b = word_from b 556

-- the pixels of a level
abbrev pub area_from : List ℕ → ℕ
area_from b = rows_from b * cols_from b

-- level k of the four, which follow the header of 560 bytes, or 140 words
abbrev pub level_from : List ℕ → ℕ → List Float
level_from b k = floats_at (area_from b) b (140 + k * area_from b)

-- level k at the start of an array of 3,600 zeros, the most pixels of a level
unfoldable pub level_array : List ℕ → ℕ → List Float
level_array b k = level_from b k ++ drop (area_from b) (replicate 3600 (of_bits binary32 0))

-- the input's own checks, in their order, which stand in front of detection's: 2 for a header cut short, 1 for a side above 60, 2 for any other wrong length
unfoldable pub list_checks : List ℕ → List Check
list_checks b =
    (Level when ltb (length b) 560)
    ∷ (Size when (ltb 60 (rows_from b) || ltb 60 (cols_from b)))
    ∷ (Level when not (eqb (length b) (560 + 16 * area_from b)))
    ∷ []
