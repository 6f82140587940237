-- What the desks' face leaves of an outcome. Assumes nothing.
use Rattle.std.specs.Prelude.{Result, ⊤}
use Prim.Native.Nat.{ℕ}
use mathlib.Core.List.{List}
use mathlib.Core.Path.{◌≡◌, ap}
use Rattle.desks.specs.Desks.{Outcome, outcome}
use Rattle.face_desks.specs.Face.{told_number, table_left, table_left_by}
use Rattle.tables.specs.declared.Refusal.{Refusal}

pub table-left-by : {a : Result ⊤ Refusal} {t : List ℕ} {r : ℕ} {o : Outcome} → r ≡ told_number a → outcome a t ≡ o → table_left r t ≡ table_left_by o
table-left-by p e = rw p (ap table_left_by e)
