-- A scene's checks before its first tile, in their order. Definitions only. A tile is step + 8 pixels long: the code's step is 4,088.
use Rattle.std.specs.Prelude.{ℕ, ◌*◌, ◌≤◌, ◌≡◌, true, false, ◌||◌, List, [], ◌∷◌, ltb}
use Rattle.tables.specs.declared.Set.{Set}
use Rattle.tables.specs.declared.Thresholds.{Thresholds}
use Rattle.tables.specs.declared.Refusal.TheVariants as refusal
use Rattle.tables.specs.Set.{good}
use Rattle.tables.specs.Refusal.{Check, ◌when◌, any_nan, octave_check, thresholds_check, set_check}
use Rattle.checks.specs.Checks.{levels_check}
use Rattle.tiles.specs.Tiles.{tile_step, length_of}

-- the longest side of a scene
abbrev pub most_scene : ℕ
most_scene = 16384

-- 10: rows or cols above it
abbrev pub scene_check : ℕ → ℕ → Check
scene_check rows cols = refusal.Scene when (ltb most_scene rows || ltb most_scene cols)

-- how many pixels the first tile has, which is the largest
abbrev pub tile_room : ℕ → ℕ → ℕ → ℕ
tile_room step rows cols = length_of step rows 0 * length_of step cols 0

-- 6: a tile slice of t0 to t3 floats is too short for the first tile
abbrev pub room_check : ℕ → ℕ → ℕ → ℕ → ℕ → ℕ → ℕ → Check
room_check step rows cols t0 t1 t2 t3 =
    let need = tile_room step rows cols in refusal.Room when (ltb t0 need || (ltb t1 need || (ltb t2 need || ltb t3 need)))

-- a scene's checks before the first tile, in their order: 10, 2, 3, 8, 4, 6
unfoldable pub scene_checks : ℕ → ℕ → ℕ → ℕ → ℕ → ℕ → ℕ → ℕ → Thresholds → Set → ℕ → ℕ → ℕ → ℕ → List Check
scene_checks step n0 n1 n2 n3 rows cols octave th s t0 t1 t2 t3 =
    scene_check rows cols
    ∷ levels_check n0 n1 n2 n3 (rows * cols)
    ∷ octave_check octave
    ∷ thresholds_check th
    ∷ set_check s
    ∷ room_check step rows cols t0 t1 t2 t3
    ∷ []

-- a scene that passed its checks: levels of n0 to n3 floats, tile slices of t0 to t3
pub record SceneIn (s : Set) (th : Thresholds) (rows cols octave n0 n1 n2 n3 t0 t1 t2 t3 : ℕ) : Type 0 where
  pub is-good : good s ≡ true
  pub clean : any_nan th ≡ false
  pub rows-most : rows ≤ most_scene
  pub cols-most : cols ≤ most_scene
  pub few : octave ≤ 5
  pub long0 : n0 ≡ rows * cols
  pub long1 : n1 ≡ rows * cols
  pub long2 : n2 ≡ rows * cols
  pub long3 : n3 ≡ rows * cols
  pub room0 : tile_room tile_step rows cols ≤ t0
  pub room1 : tile_room tile_step rows cols ≤ t1
  pub room2 : tile_room tile_step rows cols ≤ t2
  pub room3 : tile_room tile_step rows cols ≤ t3
