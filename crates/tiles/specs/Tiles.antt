-- The tiles along a side of a scene. Definitions only. A tile is step + 8 pixels long, and the next begins step pixels later: the code's step is 4,088.
use Rattle.std.specs.Prelude.{ℕ, suc, ◌+◌, ◌-◌, ◌*◌, ◌/◌, ◌≤◌, ◌<◌, min, ◌≡◌}

-- the code's step
abbrev pub tile_step : ℕ
tile_step = 4088

-- how many pixels a whole tile has along a side: two neighbours share the eight past the step
abbrev pub run_of : ℕ → ℕ
run_of step = step + 8

-- how many tiles a side has: one, and another as long as pixels past the last remain (TilesLaws.follows says so)
unfoldable pub tiles_of : ℕ → ℕ → ℕ
tiles_of step side = suc ((side - 9) / step)

-- where tile k begins
abbrev pub start_of : ℕ → ℕ → ℕ
start_of step k = k * step

-- how long tile k is: a whole run, or to the end of the side
unfoldable pub length_of : ℕ → ℕ → ℕ → ℕ
length_of step side k = min (run_of step) (side - start_of step k)

-- the pixel p of a side is tile k's own pixel at local, and tile k judges it: it is at least four off both of the tile's ends
pub record JudgedIn (step side k local p : ℕ) : Type 0 where
  pub tile : k < tiles_of step side
  pub low : 4 ≤ local
  pub high : local + 4 < length_of step side k
  pub there : start_of step k + local ≡ p

-- a scene judges the pixel p of a side
pub record JudgedOn (side p : ℕ) : Type 0 where
  pub low : 4 ≤ p
  pub high : p + 4 < side

-- the tile that judges the pixel p of a side
unfoldable pub tile_at : ℕ → ℕ → ℕ
tile_at step p = (p - 4) / step

-- where p lies in it
unfoldable pub local_at : ℕ → ℕ → ℕ
local_at step p = p - start_of step (tile_at step p)

-- the pixel p of a side lies in some tile
pub record Covered (step side p : ℕ) : Type 0 where
  pub number : ℕ
  pub local : ℕ
  pub tile : number < tiles_of step side
  pub inside : local < length_of step side number
  pub there : start_of step number + local ≡ p
