-- Two floats that differ at most in the sign of a zero. Definitions only.
use Rattle.std.specs.Prelude.{Bool, pos, Float}
use Rattle.std.specs.Float.{fin}

pub data Near : Float → Float → Type 0 where
  same : {x : Float} → Near x x
  zeros : {s t : Bool} → Near (fin s 0 (pos 0)) (fin t 0 (pos 0))
