-- What the levels' face answers, and what it leaves in the four buffers, as one value of its input. Definitions only.
use Rattle.std.specs.Prelude.{ℕ, List, Float, Result, ⊤}
use Rattle.tables.specs.Refusal.{read_or_blank}
use Rattle.tables.specs.declared.Refusal.{Refusal}
use Rattle.levels.specs.Levels as levels
use Rattle.face.specs.Face.{answer_number}

-- 0, or the refusal's number
abbrev pub blurred_number : Result ⊤ Refusal → ℕ
blurred_number = answer_number

-- what a call of levels leaves: its number, and the four buffers
pub record LevelsLeft : Type 0 where
  pub number : ℕ
  pub l0 : List Float
  pub l1 : List Float
  pub l2 : List Float
  pub l3 : List Float

-- these five, given one by one
abbrev pub levels_left : ℕ → List Float → List Float → List Float → List Float → LevelsLeft
levels_left n l0 l1 l2 l3 = record { number = n; l0 = l0; l1 = l1; l2 = l2; l3 = l3 }

-- what an outcome of levels leaves
abbrev pub levels_left_by : levels.Outcome → LevelsLeft
levels_left_by o = levels_left (blurred_number o.answer) o.l0 o.l1 o.l2 o.l3

-- the levels under the set that the record holds
unfoldable pub levels_face : List ℕ → ℕ → ℕ → ℕ → List Float → List Float → List Float → List Float → List Float → LevelsLeft
levels_face set rows cols octave raw l0 l1 l2 l3 = levels_left_by (levels.levels_of (read_or_blank set) rows cols octave raw l0 l1 l2 l3)
