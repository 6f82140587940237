-- Each judged scene pixel lies in the judged part of exactly one tile. Assumes nothing but that tiles advance.
use Prim.Native.Nat.{ℕ, ◌<◌}
use mathlib.Core.Path.{◌≡◌}
use Rattle.pixel.specs.declared.Frame.{Frame}
use Rattle.samples.specs.Level.{Within}
use Rattle.tiles.specs.Tiles.{JudgedIn, tile_at, local_at}
use Rattle.tiles.proofs.TilesLaws.{judged-somewhere, judged-on, judged_once}
use Rattle.seamless.specs.Alone.{JudgedBy}

module _ (step : ℕ) (advances : 0 < step) (f : Frame) (row col : ℕ) where
  -- the tile that judges it, and its pixel there
  pub judged-by-some : Within 4 f row col → JudgedBy step f (tile_at step row) (tile_at step col) (local_at step row) (local_at step col) row col
  judged-by-some inside =
      let down : JudgedIn step f.rows (tile_at step row) (local_at step row) row =
      judged-somewhere step advances f.rows row (record { low = inside.top; high = inside.bottom }) in
      let right : JudgedIn step f.cols (tile_at step col) (local_at step col) col =
      judged-somewhere step advances f.cols col (record { low = inside.left; high = inside.right }) in
      record {
        down = down.tile;
        right = right.tile;
        inside = record { top = down.low; bottom = down.high; left = right.low; right = right.high };
        row_is = down.there;
        col-is = right.there;
      }

  module _ (i j r c : ℕ) (by : JudgedBy step f i j r c row col) where
    rows_in : JudgedIn step f.rows i r row
    rows_in = record { tile = by.down; low = by.inside.top; high = by.inside.bottom; there = by.row_is }

    cols_in : JudgedIn step f.cols j c col
    cols_in = record { tile = by.right; low = by.inside.left; high = by.inside.right; there = by.col-is }

    -- no other tile judges it, and it is the tile's pixel at one place only
    pub judged-by-one : (i ≡ tile_at step row) × (j ≡ tile_at step col) × (r ≡ local_at step row) × (c ≡ local_at step col)
    judged-by-one =
        let down = judged_once step advances f.rows i r row rows_in in
        let right = judged_once step advances f.cols j c col cols_in in
        (down.0, right.0, down.1, right.1)

    -- what a tile judges the untiled scene judges
    pub judged-by_scene : Within 4 f row col
    judged-by_scene =
        let down = judged-on step advances f.rows i r row rows_in in
        let right = judged-on step advances f.cols j c col cols_in in
        record { top = down.low; bottom = down.high; left = right.low; right = right.high }
