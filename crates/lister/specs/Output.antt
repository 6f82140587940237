-- The list program's whole output as one value of its input. Definitions only.
use Rattle.std.specs.Prelude.{ℕ, ◌≡◌, List, [], ◌++◌, length, take, Result, Ok, Err, ⊤}
use Rattle.tables.specs.Refusal.{number, first_of}
use Rattle.tables.specs.declared.Refusal.{Refusal}
use Rattle.record.specs.declared.Record.{Record}
use Rattle.detect.specs.Due.{due}
use Rattle.text.specs.Text.{lines_of, found_line, refused_line}
use Rattle.input.specs.Input.{list_checks}
use Rattle.lister.specs.Detect.{detect_from, maps_from}

-- how many records are printed at most
abbrev pub most_shown : ℕ
most_shown = 1300

-- the first records' bytes as hex digits, a line each, then the full count, or `refused` and a number
unfoldable pub printed : Result ℕ Refusal → List Record → List ℕ
printed (Ok n) rs = lines_of (take most_shown rs) ++ found_line n
printed (Err w) rs = refused_line (number w)

-- what a tile of the right length prints; the answer is that of a call with no room for records, since a short buffer is no refusal
unfoldable pub tile_output : List ℕ → List ℕ
tile_output b = printed (detect_from b []).answer (due (maps_from b))

-- a refusal of the input itself comes first
unfoldable pub checked_output : Result ⊤ Refusal → List ℕ → List ℕ
checked_output (Err w) b = refused_line (number w)
checked_output (Ok _) b = tile_output b

-- the whole output
unfoldable pub list_output : List ℕ → List ℕ
list_output b = checked_output (first_of (list_checks b)) b

-- the buffer's first r bytes are the text, and r is its length
pub record Begins (out : List ℕ) (r : ℕ) (text : List ℕ) : Type 0 where
  pub count : r ≡ length text
  pub bytes : take r out ≡ text
