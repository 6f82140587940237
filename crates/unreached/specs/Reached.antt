-- Which causes of an absent statistic some input has. Definitions only.
use Rattle.std.specs.Prelude.{Bool, true, false}
use Rattle.profile.specs.declared.Absence.{Absence}
use Rattle.profile.specs.declared.Absence.TheVariants.{Samples, Quotients, Line, Energy}

-- whether a cause is ever given
unfoldable pub reached : Absence → Bool
reached Samples = true
reached Quotients = true
reached Line = true
reached Energy = false
