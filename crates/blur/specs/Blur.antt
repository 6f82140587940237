-- A level of a raw map: two passes, first across columns, then along rows, with the edge repeated. Definitions only.
use Rattle.std.specs.Prelude.{ℕ, zero, suc, ◌+◌, ◌-◌, min, List, get_or, Float}
use Rattle.std.specs.Float.{nan}
use Rattle.float.specs.Num.{◌⊕◌, ◌⊗◌}
use Rattle.grid.specs.Grid.{pixel_at, columns_of}
use Rattle.kernels.specs.declared.Kernel.{Kernel}

-- One pass at a place of a line whose places are 0 to last: the centre times its tap, then for each t up to n the two t off, summed first, times theirs.
-- A place before the line's first is its first, and one past its last its last.
unfoldable pub pass_to : (ℕ → Float) → ℕ → List Float → ℕ → ℕ → Float
pass_to line last taps place zero = line place ⊗ get_or taps 0 nan
pass_to line last taps place (suc n) =
    pass_to line last taps place n ⊕ (line (place - suc n) ⊕ line (min (place + suc n) last)) ⊗ get_or taps (suc n) nan

-- a pixel of the first pass: across columns
unfoldable pub across_at : List Float → ℕ → ℕ → Kernel → ℕ → ℕ → Float
across_at raw rows cols k row col = pass_to (pixel_at raw rows row) (cols - 1) k.taps col k.radius

-- a pixel of the level: the second pass, along rows, over the first's
unfoldable pub level_at : List Float → ℕ → ℕ → Kernel → ℕ → ℕ → Float
level_at raw rows cols k row col = pass_to (λ r. across_at raw rows cols k r col) (rows - 1) k.taps row k.radius

-- the whole level
unfoldable pub level_of : List Float → ℕ → ℕ → Kernel → List Float
level_of raw rows cols k = columns_of (level_at raw rows cols k) rows cols
