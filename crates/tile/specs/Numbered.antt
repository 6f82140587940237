-- A sized record with the numbers of the tile that lists it, and its bytes. Definitions only.
use Rattle.std.specs.Prelude.{ℕ, List, [], ◌∷◌, ◌++◌, map}
use Rattle.tables.specs.declared.Set.{Set}
use Rattle.record.specs.declared.Record.{Record}
use Rattle.words.specs.Words.{half_bytes}
use Rattle.sized.specs.Sized.{sized_bytes}

-- how many bytes it has: two u16, and the sized record's
abbrev pub numbered_width : ℕ
numbered_width = 64

-- a record, and the numbers of the tile that lists it
pub record Numbered : Type 0 where
  pub tile_row : ℕ
  pub tile_col : ℕ
  pub spot : Record

-- these, given one by one
abbrev pub numbered : ℕ → ℕ → Record → Numbered
numbered i j r = record { tile_row = i; tile_col = j; spot = r }

-- its bytes: tile row u16, tile col u16, the sized record, whose x, y, order key and home pixel are the tile's own
unfoldable pub numbered_bytes : Set → Numbered → List ℕ
numbered_bytes s p = half_bytes p.tile_row ++ (half_bytes p.tile_col ++ sized_bytes s p.spot)

-- those of several, one after the other
unfoldable pub all_bytes : Set → List Numbered → List ℕ
all_bytes s [] = []
all_bytes s (p ∷ ps) = numbered_bytes s p ++ all_bytes s ps

-- the bytes of what the tile (i, j) lists
abbrev pub tile_bytes : Set → ℕ → ℕ → List Record → List ℕ
tile_bytes s i j rs = all_bytes s (map (numbered i j) rs)
