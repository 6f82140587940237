-- A sized record: the spot's record, its size and its home pixel, as a function of the record and the set alone. Definitions only.
use Rattle.std.specs.Prelude.{ℕ, ◌^◌, ◌<◌, List, [], ◌∷◌, ◌++◌, eqb, Float, Result, Ok, Err}
use Rattle.float.specs.Num.{f0}
use Rattle.tables.specs.declared.Set.{Set}
use Rattle.tables.specs.Refusal.{cause_of}
use Rattle.record.specs.declared.Record.{Record}
use Rattle.words.specs.Words.{half_bytes, float_bytes}
use Rattle.record.specs.Layout.{old_bytes, record_bytes}
use Rattle.whole.specs.Nearest.{Nearest, nearest_of}
use Rattle.size.specs.Correct.{corrected_of}
use Rattle.sized.specs.declared.Home.{Home}
use Rattle.tables.specs.declared.Missing.{Missing}

-- how many bytes a sized record has: the spot record's, and twelve more
abbrev pub sized_width : ℕ
sized_width = 60

-- how many an old one has
abbrev pub old_sized_width : ℕ
old_sized_width = 52

-- the corrected sigma; where no size is given it is +0.0
unfoldable pub given_sigma : Result Float Missing → Float
given_sigma (Ok sigma) = sigma
given_sigma (Err why) = f0

-- accepted 1 or 0
unfoldable pub accepted_of : Result Float Missing → ℕ
accepted_of (Ok sigma) = 1
accepted_of (Err why) = 0

-- the cause for which the size is missing, 1 or 2; 0 where it is given
unfoldable pub missing_of : Result Float Missing → ℕ
missing_of (Ok sigma) = 0
missing_of (Err why) = cause_of why

-- the four samples in a record
abbrev pub samples_in : Record → List Float
samples_in r = r.s0 ∷ r.s1 ∷ r.s2 ∷ r.s3 ∷ []

-- the size that a record's own samples, sigma and polarity give
unfoldable pub size_of : Set → Record → Result Float Missing
size_of s r = corrected_of s (samples_in r) r.sigma (eqb r.polarity 1)

-- the home pixel is the one nearest to the record's own y and x, a half going to the larger number
unfoldable pub home_of : Record → Home
home_of r = record { row = nearest_of r.y; col = nearest_of r.x }

-- what follows the record: corrected sigma f32, home row u16, home col u16, accepted 1 or 0, why the size is missing, two zero bytes
unfoldable pub tail_bytes : Result Float Missing → Home → List ℕ
tail_bytes size home = float_bytes (given_sigma size) ++ (half_bytes home.row ++ (half_bytes home.col ++ (accepted_of size ∷ missing_of size ∷ 0 ∷ 0 ∷ [])))

-- its bytes
unfoldable pub sized_bytes : Set → Record → List ℕ
sized_bytes s r = record_bytes r ++ tail_bytes (size_of s r) (home_of r)

-- the bytes of an old one
unfoldable pub old_sized_bytes : Set → Record → List ℕ
old_sized_bytes s r = old_bytes r ++ tail_bytes (size_of s r) (home_of r)

-- (row, col) is the pixel nearest to the record's y and x, a half going to the larger number
pub record NearestPixel (r : Record) (row col : ℕ) : Type 0 where
  pub to-y : Nearest r.y row
  pub to-x : Nearest r.x col

-- a record whose home two bytes each hold
pub record Placed (r : Record) : Type 0 where
  pub row : (home_of r).row < 2 ^ 16
  pub col : (home_of r).col < 2 ^ 16
