-- What the functions of a scene ask for, and what one tile leaves. Definitions only, inside.
use Rattle.std.specs.Prelude.{ℕ, ◌*◌, ◌≤◌, ◌<◌, ◌≡◌, true, false, List, ◌++◌, length, drop, Float, Option}
use Rattle.std.proofs.lemmas.List.Edits.{sets}
use Rattle.tables.specs.declared.Set.{Set}
use Rattle.tables.specs.declared.Thresholds.{Thresholds}
use Rattle.tables.specs.Set.{good}
use Rattle.tables.specs.Refusal.{any_nan}
use Rattle.samples.specs.Level.{Maps, maps_of}
use Rattle.detect.specs.Due.{due}
use Rattle.tiles.specs.Tiles.{tile_step, tiles_of}
use Rattle.tiles.specs.Copy.{tile_level, Cut}
use Rattle.tile.specs.Numbered.{numbered_width}
use Rattle.tile.specs.Tile.{filling, fill_of}
use Rattle.turn.specs.Tiled.{tile_copy, tile_maps}

-- xs at the front, and what lies past them is kept
abbrev pub front : {A : Type 0} → List A → List A → List A
front xs old = xs ++ drop (length xs) old

-- a scene's maps, given one by one
abbrev pub scene_maps : Set → Thresholds → ℕ → ℕ → ℕ → List Float → List Float → List Float → List Float → Maps
scene_maps s th rows cols octave l0 l1 l2 l3 = maps_of l0 l1 l2 l3 (record { rows = rows; cols = cols; octave = octave }) s th

-- ---- one tile

-- the tile (i, j) is one of the scene's, and the done records lie in the output
pub record Turn (rows cols i j done room : ℕ) : Type 0 where
  pub down : i < tiles_of tile_step rows
  pub right : j < tiles_of tile_step cols
  pub lies : done * numbered_width ≤ room

-- a tile may be copied from four levels
pub record Cuts (n0 n1 n2 n3 t0 t1 t2 t3 rows r0 c0 h w : ℕ) : Type 0 where
  pub cut0 : Cut n0 t0 rows r0 c0 h w
  pub cut1 : Cut n1 t1 rows r0 c0 h w
  pub cut2 : Cut n2 t2 rows r0 c0 h w
  pub cut3 : Cut n3 t3 rows r0 c0 h w

-- what the four copies leave
pub record Copied (l0 l1 l2 l3 t0 t1 t2 t3 t0' t1' t2' t3' : List Float) (rows r0 c0 h w : ℕ) : Type 0 where
  pub left0 : t0' ≡ sets t0 0 (tile_level l0 rows r0 c0 h w)
  pub left1 : t1' ≡ sets t1 0 (tile_level l1 rows r0 c0 h w)
  pub left2 : t2' ≡ sets t2 0 (tile_level l2 rows r0 c0 h w)
  pub left3 : t3' ≡ sets t3 0 (tile_level l3 rows r0 c0 h w)

-- slices of t0 to t3 floats hold a tile of h by w at their fronts, which may be judged
pub record Lent (s : Set) (th : Thresholds) (h w octave t0 t1 t2 t3 : ℕ) : Type 0 where
  pub is-good : good s ≡ true
  pub clean : any_nan th ≡ false
  pub tall : h ≤ 4096
  pub wide : w ≤ 4096
  pub few : octave ≤ 5
  pub fits0 : h * w ≤ t0
  pub fits1 : h * w ≤ t1
  pub fits2 : h * w ≤ t2
  pub fits3 : h * w ≤ t3

-- what one tile leaves
pub record TileAfter (m : Maps) (i j done : ℕ) (t0 t1 t2 t3 t0' t1' t2' t3' : List Float) (out out' : List ℕ) (r : Option ℕ) : Type 0 where
  pub left0 : t0' ≡ front (tile_copy tile_step m.frame i j m.l0) t0
  pub left1 : t1' ≡ front (tile_copy tile_step m.frame i j m.l1) t1
  pub left2 : t2' ≡ front (tile_copy tile_step m.frame i j m.l2) t2
  pub left3 : t3' ≡ front (tile_copy tile_step m.frame i j m.l3) t3
  pub same0 : length t0' ≡ length t0
  pub same1 : length t1' ≡ length t1
  pub same2 : length t2' ≡ length t2
  pub same3 : length t3' ≡ length t3
  pub same_out : length out' ≡ length out
  pub fills : filling r out' ≡ fill_of m.set i j (due (tile_maps tile_step m i j)) done out
