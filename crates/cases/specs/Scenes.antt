-- Cases of scenes: tiles along a side, checks, map M cut into tiles of 9, and a home pixel that is the tile's own. Definitions only.
use Rattle.std.specs.Prelude.{ℕ, ◌-◌, List, [], ◌∷◌, ◌++◌, pos, set, replicate, Float}
use Rattle.std.specs.Float.{binary32}
use Rattle.std.specs.Float.Ieee.{of_bits, of_int}
use Rattle.float.specs.Num.{f0, ◌⊕◌}
use Rattle.whole.specs.Nearest.{nearest_of}
use Rattle.tables.specs.declared.Set.{Set}
use Rattle.tables.specs.declared.Thresholds.{Thresholds}
use Rattle.tables.specs.Refusal.{first_of}
use Rattle.tables.specs.SetT.{set_t}
use Rattle.tiles.specs.Tiles.{tile_step, tiles_of, length_of}
use Rattle.scene_checks.specs.Checks.{scene_checks}
use Rattle.scene.specs.Scene.{After, scene_of}
use Rattle.face_scene.specs.Face.{left_by}
use Rattle.cases.specs.Case.{Case}
use Rattle.cases.specs.MapM.{zeros, put, bytes_m, thresholds_m, of_checked}

-- how many tiles a side has, and how long the last is
unfoldable pub tiles_case : ℕ → List ℕ → Case
tiles_case side due = record { given = tiles_of tile_step side ∷ length_of tile_step side (tiles_of tile_step side - 1) ∷ []; due = due }

-- what a scene's checks say of four levels of n floats and four tile slices of t
unfoldable pub scene_case : ℕ → ℕ → ℕ → ℕ → Thresholds → Set → ℕ → List ℕ → Case
scene_case rows cols n octave th s t due = record { given = of_checked (first_of (scene_checks tile_step n n n n rows cols octave th s t t t t)); due = due }

-- map M's levels 0 and 1 with the spot's pixel at (4, col)
unfoldable pub spot_at : ℕ → ℕ → List Float
spot_at pattern col = put 4 col pattern zeros

-- the spot's 60 bytes in such a tile: map M's, with the tile's own key, then its size, home and the rest
unfoldable pub cut_m : List ℕ
cut_m = set bytes_m 32 0x28 ++ (0xf3 ∷ 0x04 ∷ 0x35 ∷ 0x40 ∷ 0x04 ∷ 0x00 ∷ 0x05 ∷ 0x00 ∷ 0x01 ∷ 0x00 ∷ 0x00 ∷ 0x00 ∷ [])

-- what is left of a call: number, value and output
unfoldable pub of_after : After → List ℕ
of_after a = (left_by a).number ∷ (left_by a).value ∷ a.out

-- map M with its spot's pixel at (4, col), cut into tiles of 9 by 9 a pixel apart: its 9 by 10 pixels make two, of which the first judges (4, 4) and the second (4, 5)
unfoldable pub cut_case : ℕ → ℕ → List ℕ → Case
cut_case col room due = record {
  given = of_after (scene_of 1 set_t thresholds_m 9 10 0 (spot_at 0x3e800000 col) (spot_at 0xbe800000 col) zeros zeros (replicate 81 f0) (replicate 81 f0) (replicate 81 f0) (replicate 81 f0) (replicate room 0));
  due = due;
}

-- the home col of a spot at a pixel's col, displaced by the value of a bit pattern
unfoldable pub home_case : ℕ → ℕ → ℕ → Case
home_case col pattern due = record { given = nearest_of (of_int binary32 (pos col) ⊕ of_bits binary32 pattern) ∷ []; due = due ∷ [] }

-- map M in two tiles: its spot is the first one's, with the tile's own key
unfoldable pub first_cut : Case
first_cut = cut_case 4 64 (0 ∷ 1 ∷ 0 ∷ 0 ∷ 0 ∷ 0 ∷ cut_m)

-- a pixel to the right it is the second one's, with the same bytes but for the tile's number
unfoldable pub second_cut : Case
second_cut = cut_case 5 64 (0 ∷ 1 ∷ 0 ∷ 0 ∷ 1 ∷ 0 ∷ cut_m)

-- a byte short: 6 with no tile, and nothing written
unfoldable pub first_short : Case
first_short = cut_case 4 63 (6 ∷ 0 ∷ replicate 63 0)

-- of the second tile: 6 with one tile, the empty first one counted, and nothing written
unfoldable pub second_short : Case
second_short = cut_case 5 63 (6 ∷ 1 ∷ replicate 63 0)
