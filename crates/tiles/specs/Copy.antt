-- A tile's copy of a level. Definitions only.
use Rattle.std.specs.Prelude.{ℕ, zero, suc, ◌+◌, ◌*◌, ◌≤◌, List, [], ◌++◌, take, drop, Float}

-- f 0, f 1, .., n of them, one after the other
unfoldable pub gather : {A : Type 0} → (ℕ → List A) → ℕ → List A
gather f zero = []
gather f (suc n) = gather f n ++ f n

-- the w columns from col c0 on of a level of rows rows, of each the h pixels from row r0 on: a level of h by w of its own
unfoldable pub tile_level : List Float → ℕ → ℕ → ℕ → ℕ → ℕ → List Float
tile_level l rows r0 c0 h w = gather (λ c. take h (drop ((c0 + c) * rows + r0) l)) w

-- a tile of h by w at (r0, c0) of a level of n floats with rows rows lies in it, and a slice of room floats has place for it
pub record Cut (n room rows r0 c0 h w : ℕ) : Type 0 where
  pub tall : r0 + h ≤ rows
  pub inside : (c0 + w) * rows ≤ n
  pub most : n ≤ 268435456
  pub fits : w * h ≤ room
  pub wide : c0 + w ≤ 16384
