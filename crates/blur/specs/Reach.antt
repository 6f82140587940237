-- How far a lost raw pixel reaches, in a level and in the list of spots. Definitions only.
use Rattle.std.specs.Prelude.{ℕ, zero, suc, ◌+◌, ◌-◌, ◌<◌, ◌≡◌, Bool, true, false, not, ◌&&◌, ◌||◌, List, leb, eqb, Float}
use Rattle.float.specs.Small.{finite}
use Rattle.grid.specs.Grid.{pixel_at}

-- how many rows or cols a and b are off each other
abbrev pub off : ℕ → ℕ → ℕ
off a b = a - b + (b - a)

-- the test passes at some number under n
unfoldable pub some_under : ℕ → (ℕ → Bool) → Bool
some_under zero test = false
some_under (suc n) test = some_under n test || test n

-- the test passes at some pixel of a map
unfoldable pub somewhere : ℕ → ℕ → (ℕ → ℕ → Bool) → Bool
somewhere rows cols test = some_under rows (λ r. some_under cols (test r))

-- (r, c) is at most d rows and d cols off (row, col)
unfoldable pub near : ℕ → ℕ → ℕ → ℕ → ℕ → Bool
near d row col r c = leb (off row r) d && leb (off col c) d

-- (r, c) is one of the four corners of that square
unfoldable pub corner : ℕ → ℕ → ℕ → ℕ → ℕ → Bool
corner d row col r c = eqb (off row r) d && eqb (off col c) d

-- some lost raw pixel of the map is at most d rows and d cols off (row, col)
unfoldable pub reached : (ℕ → ℕ → Bool) → ℕ → ℕ → ℕ → ℕ → ℕ → Bool
reached lost rows cols d row col = somewhere rows cols (λ r c. near d row col r c && lost r c)

-- the same, save the four corners d off both ways
unfoldable pub touched : (ℕ → ℕ → Bool) → ℕ → ℕ → ℕ → ℕ → ℕ → Bool
touched lost rows cols d row col = somewhere rows cols (λ r c. near d row col r c && not (corner d row col r c) && lost r c)

-- the raw map b is the raw map a but for the lost pixels, at each of which b is NaN or infinite
pub record LossyRaw (lost : ℕ → ℕ → Bool) (rows cols : ℕ) (a b : List Float) : Type 0 where
  pub stays : (row col : ℕ) → row < rows → col < cols → lost row col ≡ false → pixel_at a rows row col ≡ pixel_at b rows row col
  pub gone : (row col : ℕ) → row < rows → col < cols → lost row col ≡ true → finite (pixel_at b rows row col) ≡ false
