-- Four finite floats.
use mathlib.Core.Path.{◌≡◌}
use mathlib.Core.List.{List}
use mathlib.Core.Bool.{true}
use Prim.Native.Nat.{ℕ, ◌<◌}
use lib.Ieee.{Float}
use Rattle.float.specs.Small.{finite}
use Rattle.fit.specs.Cubic.{◌at◌}

-- the first four of a list are finite
abbrev pub Whole : List Float → Type 0
Whole l = (j : ℕ) → j < 4 → finite (l at j) ≡ true
