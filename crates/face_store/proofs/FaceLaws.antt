-- What the store's face leaves of an outcome. Assumes nothing.
use Rattle.std.specs.Prelude.{Result}
use Prim.Native.Nat.{ℕ}
use mathlib.Core.List.{List}
use mathlib.Core.Path.{◌≡◌, ap}
use Rattle.store.specs.Store.{Outcome, outcome}
use Rattle.store.specs.declared.Stored.{Stored}
use Rattle.face.specs.Face.{left}
use Rattle.face_store.specs.Face.{stored_packed, store_left}
use Rattle.tables.specs.declared.Refusal.{Refusal}

pub store_left-by : {a : Result Stored Refusal} {b : List ℕ} {r v : ℕ} {o : Outcome} → r ≡ (stored_packed a).number → v ≡ (stored_packed a).value → outcome a b ≡ o → left r v b ≡ store_left o
store_left-by p q e = rw (p, q) (ap store_left e)
