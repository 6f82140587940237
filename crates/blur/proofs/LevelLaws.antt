-- How long a level is, and where its pixels lie. Assumes nothing.
use Prim.Native.Nat.{ℕ, ◌*◌, ◌<◌}
use mathlib.Core.Path.{◌≡◌}
use mathlib.Core.List.{List}
use lib.ListN.{length}
use lib.Ieee.{Float}
use Rattle.grid.specs.Grid.{pixel_at}
use Rattle.grid.proofs.GridLaws.{length-columns, columns_at}
use Rattle.kernels.specs.declared.Kernel.{Kernel}
use Rattle.blur.specs.Blur.{level_at, level_of}

module _ (raw : List Float) (rows cols : ℕ) (k : Kernel) where
  -- a level is as long as its map
  pub length-level : length (level_of raw rows cols k) ≡ cols * rows
  unfolding level_of
  length-level = length-columns (level_at raw rows cols k) rows cols

  -- Level k of a raw map is, pixel by pixel, the sum of the two passes.
  pub level_pixel : (row col : ℕ) → row < rows → col < cols → pixel_at (level_of raw rows cols k) rows row col ≡ level_at raw rows cols k row col
  unfolding level_of pixel_at
  level_pixel row col h g = columns_at (level_at raw rows cols k) rows cols col row g h
