-- How far a spot is moved from its pixel: what passes, and how it is kept. Definitions only.
use Rattle.std.specs.Prelude.{Bool, cond, not, ◌&&◌, Float}
use Rattle.std.specs.Float.Ieee.{lt, eq}
use Rattle.float.specs.Small.{finite, abs_of}
use Rattle.float.specs.Num.{f0, f0_6}

-- a displacement passes: finite, and not above 0.6 in size
unfoldable pub nearby : Float → Bool
nearby d = finite d && not (lt f0_6 (abs_of d))

-- a displacement as it is kept: as computed, a zero always as +0
unfoldable pub kept_of : Float → Float
kept_of d = cond (eq d f0) f0 d
