-- What the join's face leaves of an outcome.
use Rattle.std.specs.Prelude.{Result}
use Prim.Native.Nat.{ℕ}
use mathlib.Core.List.{List}
use mathlib.Core.Path.{◌≡◌, ap}
use Rattle.join.specs.Join as join
use Rattle.face.specs.Face.{left}
use Rattle.face_join.specs.Face.{join_packed, join_left}
use Rattle.tables.specs.declared.Refusal.{Refusal}

pub join_left-by : {a : Result ℕ Refusal} {o : List ℕ} {r v : ℕ} {d : join.Outcome} → r ≡ (join_packed a).number → v ≡ (join_packed a).value → join.outcome a o ≡ d → left r v o ≡ join_left d
join_left-by p q e = rw (p, q) (ap join_left e)
