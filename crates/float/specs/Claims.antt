-- The words of the claims about the helpers. Definitions only.
use Rattle.std.specs.Prelude.{Bool, true, not, Float}
use Rattle.std.specs.Float.{nan, inf, fin}

-- a NaN, or without a sign
abbrev pub not_negative : Float → Bool
not_negative nan = true
not_negative (inf s) = not s
not_negative (fin s m e) = not s
