-- A scene cut into tiles: each tile as a map of its own, and what the tiles list. Definitions only. A tile is step + 8 pixels long: the code's step is 4,088.
use Rattle.std.specs.Prelude.{ℕ, ◌*◌, ◌/◌, ◌%◌, List, map, Float}
use Rattle.pixel.specs.declared.Frame.{Frame}
use Rattle.samples.specs.Level.{Maps, maps_of}
use Rattle.detect.specs.Due.{due}
use Rattle.tiles.specs.Tiles.{tiles_of, start_of, length_of}
use Rattle.tiles.specs.Copy.{gather, tile_level}
use Rattle.tile.specs.Numbered.{Numbered, numbered}

-- the sides of the tile (i, j), i counted down and j to the right
abbrev pub tile_frame : ℕ → Frame → ℕ → ℕ → Frame
tile_frame step f i j = record { rows = length_of step f.rows i; cols = length_of step f.cols j; octave = f.octave }

-- its copy of a level
abbrev pub tile_copy : ℕ → Frame → ℕ → ℕ → List Float → List Float
tile_copy step f i j l = tile_level l f.rows (start_of step i) (start_of step j) (length_of step f.rows i) (length_of step f.cols j)

-- the tile as a map of its own
abbrev pub tile_maps : ℕ → Maps → ℕ → ℕ → Maps
tile_maps step m i j =
    maps_of (tile_copy step m.frame i j m.l0) (tile_copy step m.frame i j m.l1) (tile_copy step m.frame i j m.l2) (tile_copy step m.frame i j m.l3)
    (tile_frame step m.frame i j) m.set m.thresholds

-- what it lists
unfoldable pub tile_list : ℕ → Maps → ℕ → ℕ → List Numbered
tile_list step m i j = map (numbered i j) (due (tile_maps step m i j))

-- how many tiles stand beside each other
abbrev pub across : ℕ → Frame → ℕ
across step f = tiles_of step f.cols

-- how many tiles a scene has
abbrev pub tiles : ℕ → Frame → ℕ
tiles step f = tiles_of step f.rows * across step f

-- what the first n tiles list, row by row
unfoldable pub first_tiles : ℕ → Maps → ℕ → List Numbered
first_tiles step m n = gather (λ k. tile_list step m (k / across step m.frame) (k % across step m.frame)) n

-- the scene's list
abbrev pub scene_list : ℕ → Maps → List Numbered
scene_list step m = first_tiles step m (tiles step m.frame)
