-- Two maps, of which the second has lost pixels, and the 21 pixels of a spot. Definitions only.
use Rattle.std.specs.Prelude.{ℕ, zero, suc, ◌+◌, ◌-◌, ◌/◌, ◌%◌, ◌<◌, ◌≡◌, Bool, true, false, not, cond, ◌&&◌, List, [], ◌∷◌, length, leb, eqb, Ok}
use Rattle.float.specs.Small.{finite}
use Rattle.record.specs.declared.Record.{Record}
use Rattle.record.specs.Layout.{laid}
use Rattle.grid.specs.Grid.{pixel_at}
use Rattle.samples.specs.Level.{Maps}
use Rattle.detect.specs.Detect.{Outcome, outcome}

-- ---- the 21 pixels

-- how many rows or cols a and b are off each other
abbrev pub off : ℕ → ℕ → ℕ
off a b = a - b + (b - a)

-- (r, c) is one of the 21 pixels of (row, col): at most two rows and two cols off, save the four corners two off both ways
unfoldable pub of21 : ℕ → ℕ → ℕ → ℕ → Bool
of21 row col r c = leb (off row r) 2 && leb (off col c) 2 && not (eqb (off row r) 2 && eqb (off col c) 2)

-- of the 25 pixels at most two rows and two cols off (row, col), by rows, none of the first n is one of the 21 and lost
unfoldable pub clear_to : (ℕ → ℕ → Bool) → ℕ → ℕ → ℕ → Bool
clear_to lost row col zero = true
clear_to lost row col (suc n) =
    clear_to lost row col n && not (of21 row col (row + n / 5 - 2) (col + n % 5 - 2) && lost (row + n / 5 - 2) (col + n % 5 - 2))

-- none of the 21 pixels of (row, col) is lost
abbrev pub clear : (ℕ → ℕ → Bool) → ℕ → ℕ → Bool
clear lost row col = clear_to lost row col 25

-- none of a spot's 21 pixels is lost: they are those of its order key's pixel, wherever refinement moves it, and not those of its home
unfoldable pub spared : (ℕ → ℕ → Bool) → ℕ → Record → Bool
spared lost cols r = clear lost (r.key / cols) (r.key % cols)

-- the records that pass the test, in their order
unfoldable pub keep : (Record → Bool) → List Record → List Record
keep test [] = []
keep test (r ∷ rs) = cond (test r) (r ∷ keep test rs) (keep test rs)

-- ---- two maps

-- the two maps have the same four floats at (row, col), bit for bit
pub record Same (a b : Maps) (row col : ℕ) : Type 0 where
  pub level0 : pixel_at a.l0 a.frame.rows row col ≡ pixel_at b.l0 b.frame.rows row col
  pub level1 : pixel_at a.l1 a.frame.rows row col ≡ pixel_at b.l1 b.frame.rows row col
  pub level2 : pixel_at a.l2 a.frame.rows row col ≡ pixel_at b.l2 b.frame.rows row col
  pub level3 : pixel_at a.l3 a.frame.rows row col ≡ pixel_at b.l3 b.frame.rows row col

-- all four levels are finite at (row, col)
unfoldable pub finites : Maps → ℕ → ℕ → Bool
finites m row col =
    finite (pixel_at m.l0 m.frame.rows row col) && finite (pixel_at m.l1 m.frame.rows row col)
    && finite (pixel_at m.l2 m.frame.rows row col) && finite (pixel_at m.l3 m.frame.rows row col)

-- the map b is the map a but for the lost pixels, at each of which a level of b is NaN or infinite
pub record Lossy (lost : ℕ → ℕ → Bool) (a b : Maps) : Type 0 where
  pub stays : (row col : ℕ) → row < b.frame.rows → col < b.frame.cols → lost row col ≡ false → Same a b row col
  pub gone : (row col : ℕ) → row < b.frame.rows → col < b.frame.cols → lost row col ≡ true → finites b row col ≡ false

-- P holds at the five pixels that the sample at (row, col) reads
pub record Cross (P : ℕ → ℕ → Type 0) (row col : ℕ) : Type 0 where
  pub left : P row (col - 1)
  pub right : P row (col + 1)
  pub up : P (row - 1) col
  pub down : P (row + 1) col
  pub centre : P row col

-- what a call of detection answers and leaves in the buffer, where it lists rs
abbrev pub lists : List Record → List ℕ → Outcome
lists rs out = outcome (Ok (length rs)) (laid rs out)

-- of two calls the first lists rs, and the second those of rs that pass the test
pub record Struck (test : Record → Bool) (rs : List Record) (out out' : List ℕ) (first second : Outcome) : Type 0 where
  pub whole : first ≡ lists rs out
  pub kept : second ≡ lists (keep test rs) out'
