-- What the levels' face leaves of an outcome.
use Rattle.std.specs.Prelude.{Result, ⊤}
use Prim.Native.Nat.{ℕ}
use mathlib.Core.List.{List}
use mathlib.Core.Path.{◌≡◌, ap}
use lib.Ieee.{Float}
use Rattle.levels.specs.Levels as levels
use Rattle.face_levels.specs.Face.{blurred_number, levels_left, levels_left_by}
use Rattle.tables.specs.declared.Refusal.{Refusal}

pub levels_left-by : {a : Result ⊤ Refusal} {l0 l1 l2 l3 : List Float} {r : ℕ} {d : levels.Outcome} → r ≡ blurred_number a → levels.outcome a l0 l1 l2 l3 ≡ d
    → levels_left r l0 l1 l2 l3 ≡ levels_left_by d
levels_left-by p e = rw p (ap levels_left_by e)
