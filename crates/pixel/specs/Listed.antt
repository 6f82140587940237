-- What a pixel lists at both polarities. Definitions only.
use Rattle.std.specs.Prelude.{ℕ, true, false, List, [], ◌∷◌, ◌++◌, Float, Option, Some, None}
use Rattle.tables.specs.declared.Set.{Set}
use Rattle.tables.specs.declared.Thresholds.{Thresholds}
use Rattle.record.specs.declared.Record.{Record}
use Rattle.pixel.specs.Verdict.{verdict_of}
use Rattle.pixel.specs.declared.Frame.{Frame}
use Rattle.pixel.specs.declared.Listing.{Listing}

-- what a verdict lists
unfoldable pub listed : Option Record → List Record
listed (Some r) = r ∷ []
listed None = []

-- what two verdicts list: the minimum before the maximum
abbrev pub both_in : Listing → List Record
both_in b = listed b.low ++ listed b.high

-- what the pixel (row, col) lists, from the samples at its nine places: the minimum before the maximum
unfoldable pub both_listed : Set → Thresholds → Frame → List (List Float) → ℕ → ℕ → List Record
both_listed s th f nine row col = listed (verdict_of s th f nine row col false) ++ listed (verdict_of s th f nine row col true)
