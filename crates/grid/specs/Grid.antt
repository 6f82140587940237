-- A map that lies by columns, what a function gives at its pixels, and what is stored in a buffer. Definitions only.
use Rattle.std.specs.Prelude.{ℕ, zero, suc, ◌+◌, ◌*◌, ◌≡◌, List, [], ◌∷◌, ◌++◌, length, get_or, drop, Float}
use Rattle.std.proofs.lemmas.List.Edits.{sets}
use Rattle.std.specs.Float.{nan}

-- a level is rows times cols f32, by columns: (row, col) is at col*rows + row
unfoldable pub pixel_at : List Float → ℕ → ℕ → ℕ → Float
pixel_at l rows row col = get_or l (col * rows + row) nan

-- what f gives at 0 to n - 1
unfoldable pub list_of : (ℕ → Float) → ℕ → List Float
list_of f zero = []
list_of f (suc n) = list_of f n ++ (f n ∷ [])

-- what f gives at the pixels of the first n columns, by columns: f takes a row and a col
unfoldable pub columns_of : (ℕ → ℕ → Float) → ℕ → ℕ → List Float
columns_of f rows zero = []
columns_of f rows (suc n) = columns_of f rows n ++ list_of (λ r. f r n) rows

-- floats at the start of a buffer; what lies past them is kept
abbrev pub at_start : List Float → List Float → List Float
at_start fs out = fs ++ drop (length fs) out

-- what a function that stores fs from place at on leaves
pub record Stored (out out' : List Float) (at : ℕ) (fs : List Float) : Type 0 where
  pub floats : out' ≡ sets out at fs
