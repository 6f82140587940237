-- What is listed of a scene as one map, whatever its sides, and what its tiles list, both told by scene pixels. Definitions only.
use Rattle.std.specs.Prelude.{ℕ, ◌+◌, ◌/◌, ◌%◌, List, map, Float, Result}
use Rattle.tables.specs.declared.Set.{Set}
use Rattle.record.specs.declared.Record.{Record}
use Rattle.pixel.specs.declared.Frame.{Frame}
use Rattle.sized.specs.Sized.{size_of}
use Rattle.samples.specs.Level.{Maps}
use Rattle.detect.specs.Due.{due}
use Rattle.tiles.specs.Tiles.{start_of, length_of}
use Rattle.tile.specs.Numbered.{Numbered}
use Rattle.turn.specs.Tiled.{scene_list}
use Rattle.tables.specs.declared.Missing.{Missing}

-- a spot by its scene pixel: what a tile and the untiled scene tell alike. x, y, the order key and the home pixel are not here: they are a tile's own
pub record Sight : Type 0 where
  pub row : ℕ
  pub col : ℕ
  pub polarity : ℕ
  pub sigma : Float
  pub peak : Float
  pub s0 : Float
  pub s1 : Float
  pub s2 : Float
  pub s3 : Float
  pub octave : ℕ
  pub index : ℕ
  pub dx : Float
  pub dy : Float
  -- the corrected sigma, or why there is none
  pub size : Result Float Missing

-- what a record tells, found at the scene pixel (row, col)
unfoldable pub sight_of : Set → ℕ → ℕ → Record → Sight
sight_of s row col r = record {
  row = row;
  col = col;
  polarity = r.polarity;
  sigma = r.sigma;
  peak = r.peak;
  s0 = r.s0;
  s1 = r.s1;
  s2 = r.s2;
  s3 = r.s3;
  octave = r.octave;
  index = r.index;
  dx = r.dx;
  dy = r.dy;
  size = size_of s r;
}

-- ---- untiled

-- a record of the scene as one map: its order key tells the pixel
unfoldable pub sight_whole : Maps → Record → Sight
sight_whole m r = sight_of m.set (r.key / m.frame.cols) (r.key % m.frame.cols) r

-- the untiled list: demand 2's, with no limit on the sides
unfoldable pub untiled : Maps → List Sight
untiled m = map (sight_whole m) (due m)

-- ---- tiled

-- the scene row of a record: the tile's first row, and on from there what the tile's own order key tells
abbrev pub scene_row : ℕ → Frame → Numbered → ℕ
scene_row step f p = start_of step p.tile_row + p.spot.key / length_of step f.cols p.tile_col

-- the scene col
abbrev pub scene_col : ℕ → Frame → Numbered → ℕ
scene_col step f p = start_of step p.tile_col + p.spot.key % length_of step f.cols p.tile_col

-- a record that a tile lists
unfoldable pub sight_in : ℕ → Maps → Numbered → Sight
sight_in step m p = sight_of m.set (scene_row step m.frame p) (scene_col step m.frame p) p.spot

-- the tiled list
unfoldable pub tiled : ℕ → Maps → List Sight
tiled step m = map (sight_in step m) (scene_list step m)
