-- A candidate that a neighbour's stationary point reaches. Definitions only.
use Rattle.std.specs.Prelude.{ℕ, ◌+◌, Bool, ◌&&◌, ◌||◌, List, Float}
use Rattle.std.specs.Float.Ieee.{lt, le}
use Rattle.fit.specs.Cubic.{◌at◌}
use Rattle.fit.specs.Band.{band_of}
use Rattle.fit.specs.declared.Band.{Band}

-- the value v at p, strictly inside the band, reaches val
unfoldable pub reaches : Band → Float → Float → Float → Bool
reaches b val p v = lt b.low p && lt p b.high && le val v

-- that of the point at place m
abbrev pub reaches_at : Band → Float → List Float → List Float → ℕ → Bool
reaches_at b val p v m = reaches b val (p at m) (v at m)

-- a neighbour's point reaches the candidate e: those beside and between its column's neighbours, in the slots x, y and z
unfoldable pub reached_of : List Float → ℕ → ℕ → ℕ → ℕ → List Float → List Float → Bool
reached_of g x y z e p v =
    let val = v at (y + e + 1) in
    let b = band_of g (p at (y + e + 1)) in
    (reaches_at b val p v (x + e) || reaches_at b val p v (x + e + 1) || reaches_at b val p v (x + e + 2))
    || (reaches_at b val p v (y + e) || reaches_at b val p v (y + e + 2))
    || (reaches_at b val p v (z + e) || reaches_at b val p v (z + e + 1) || reaches_at b val p v (z + e + 2))
