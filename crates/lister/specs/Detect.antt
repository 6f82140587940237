-- Detection of what the input holds. Definitions only.
use Rattle.std.specs.Prelude.{ℕ, List}
use Rattle.samples.specs.Level.{Maps, maps_of}
use Rattle.detect.specs.Detect.{Outcome, detect_of}
use Rattle.input.specs.Input.{set_from, thresholds_from, rows_from, cols_from, octave_from, level_from}

-- its outcome, with the list in the buffer out
unfoldable pub detect_from : List ℕ → List ℕ → Outcome
detect_from b out =
    detect_of (set_from b) (thresholds_from b) (rows_from b) (cols_from b) (octave_from b) (level_from b 0) (level_from b 1) (level_from b 2) (level_from b 3) out

-- the four levels with what they are judged by
abbrev pub maps_from : List ℕ → Maps
maps_from b =
    maps_of (level_from b 0) (level_from b 1) (level_from b 2) (level_from b 3) (record { rows = rows_from b; cols = cols_from b; octave = octave_from b }) (set_from b) (thresholds_from b)
