-- Four numbers above 0 and up to 1, one of them 1: what scaling by the largest gives. Definitions only.
use Rattle.std.specs.Prelude.{List, ◌⊎◌, ◌≡◌, T, Float}
use Rattle.std.specs.Float.{binary32}
use Rattle.std.specs.Float.Ieee.{le, fits}
use Rattle.std.specs.Float.Ieee.Positive.{positive}
use Rattle.float.specs.Num.{f1}
use Rattle.fit.specs.Cubic.{◌at◌}

-- an f32 above 0 and up to 1
pub record Part (x : Float) : Type 0 where
  pub fitting : T (fits binary32 x)
  pub above : T (positive x)
  pub most : T (le x f1)

-- four such, one of them 1
pub record Scaled (z : List Float) : Type 0 where
  pub first : Part (z at 0)
  pub second : Part (z at 1)
  pub third : Part (z at 2)
  pub fourth : Part (z at 3)
  pub one : (z at 0 ≡ f1) ⊎ (z at 1 ≡ f1) ⊎ (z at 2 ≡ f1) ⊎ (z at 3 ≡ f1)
