-- A tile by itself, and calls of a scene. Definitions only.
use Rattle.std.specs.Prelude.{ℕ, zero, suc, ◌+◌, ◌*◌, ◌≤◌, ◌<◌, ◌≡◌, false, List, [], ◌++◌, length, take, drop, Float, Ok}
use Rattle.tables.specs.declared.Set.{Set}
use Rattle.tables.specs.declared.Thresholds.{Thresholds}
use Rattle.record.specs.declared.Record.{Record}
use Rattle.record.specs.Layout.{spot_width, laid}
use Rattle.samples.specs.Level.{Maps, Within}
use Rattle.detect.specs.Detect as detect
use Rattle.words.specs.Words.{half_bytes}
use Rattle.sized.specs.Sized.{sized_width}
use Rattle.join.specs.Join as join
use Rattle.pixel.specs.declared.Frame.{Frame}
use Rattle.tiles.specs.Tiles.{tile_step, tiles_of, start_of}
use Rattle.tile.specs.Numbered.{all_bytes}
use Rattle.turn.specs.Tiled.{tile_frame, tiles, scene_list}
use Rattle.turn.specs.Turn.{front}
use Rattle.scene.specs.Scene.{bytes_to, After}
use Rattle.seamless.specs.Untiled.{untiled, tiled}
use Rattle.seamless.specs.Claims.{SameOnce}

-- ---- which tile judges a pixel

-- the tile (i, j) of a scene judges the scene pixel (row, col), its own pixel (r, c)
pub record JudgedBy (step : ℕ) (f : Frame) (i j r c row col : ℕ) : Type 0 where
  pub down : i < tiles_of step f.rows
  pub right : j < tiles_of step f.cols
  pub inside : Within 4 (tile_frame step f i j) r c
  pub row_is : start_of step i + r ≡ row
  pub col-is : start_of step j + c ≡ col

-- ---- a tile by itself

-- n sized records that stand one after the other, each with the tile's numbers in front
unfoldable pub with_numbers : ℕ → ℕ → ℕ → List ℕ → List ℕ
with_numbers i j zero b = []
with_numbers i j (suc n) b = (half_bytes i ++ (half_bytes j ++ take sized_width b)) ++ with_numbers i j n (drop sized_width b)

-- detection of four levels of h by w lists rs, and the join of that list gives its sized records, whatever buffers are lent that have room
pub record Alone (s : Set) (th : Thresholds) (h w octave : ℕ) (l0 l1 l2 l3 : List Float) (rs : List Record) : Type 0 where
  pub detects : (b : List ℕ) → detect.detect_of s th h w octave l0 l1 l2 l3 b ≡ detect.outcome (Ok (length rs)) (laid rs b)
  pub joins : (b o : List ℕ) → length rs * spot_width ≤ length b → length rs * sized_width ≤ length o
      → join.join_of s h w (take (length rs * spot_width) (laid rs b)) o ≡ join.outcome (Ok (length rs)) (front (join.sized_all false s rs) o)

-- ---- calls

-- a call that answered n listed every record of every tile, and these tell what the untiled scene lists, each scene pixel at each polarity once
pub record Listing (m : Maps) (out : List ℕ) (n : ℕ) (a : After) : Type 0 where
  pub count : n ≡ length (scene_list tile_step m)
  pub bytes : a.out ≡ front (all_bytes m.set (scene_list tile_step m)) out
  pub told : SameOnce (tiled tile_step m) (untiled m)

-- a call that answered 6 with k tiles wrote exactly the records of the k first tiles: they have room, and those of one tile more have not
pub record Partly (m : Maps) (out : List ℕ) (k : ℕ) (a : After) : Type 0 where
  pub more : k < tiles tile_step m.frame
  pub bytes : a.out ≡ front (bytes_to tile_step m k) out
  pub room : length (bytes_to tile_step m k) ≤ length out
  pub short : length out < length (bytes_to tile_step m (suc k))
