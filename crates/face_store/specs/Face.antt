-- What the store's face answers, and what it leaves in the buffer, as one value of its input. Definitions only.
use Rattle.std.specs.Prelude.{ℕ, List, Result, Ok, Err}
use Rattle.tables.specs.Refusal.{value}
use Rattle.tables.specs.declared.Refusal.{Refusal}
use Rattle.store.specs.Store.{Call, Outcome, call_of}
use Rattle.store.specs.declared.Stored.{Stored}
use Rattle.store.specs.declared.Stored.TheVariants.{Done, At, Live}
use Rattle.face.specs.Face.{Packed, Left, left, answer_number}

-- the slot, the live number, or the value that goes with the refusal, else 0
abbrev pub stored_value : Result Stored Refusal → ℕ
stored_value (Ok Done) = 0
stored_value (Ok (At i)) = i
stored_value (Ok (Live n)) = n
stored_value (Err w) = value w

-- 0 with 0, with the slot or with the live number; or the refusal's number and the value that goes with it
unfoldable pub stored_packed : Result Stored Refusal → Packed
stored_packed a = record { number = answer_number a; value = stored_value a }

-- what an outcome of a call leaves
abbrev pub store_left : Outcome → Left
store_left o = left (stored_packed o.answer).number (stored_packed o.answer).value o.buffer

-- a call of the store
unfoldable pub store_face : Call → List ℕ → Left
store_face c b = store_left (call_of c b)
