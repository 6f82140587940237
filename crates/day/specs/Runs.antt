-- Any sequence of calls, on a buffer and on the simple list, and the list that a buffer stands for. Definitions only.
use Rattle.std.specs.Prelude.{ℕ, Bool, cond, List, [], ◌∷◌, map, Result}
use Rattle.std.proofs.Math.Option.{Option, none, some}
use Rattle.record.specs.declared.Record.{Record}
use Rattle.record.specs.Layout.{record_from}
use Rattle.store_slots.specs.Slots.{is_free, slots_of}
use Rattle.store.specs.Store.{Call, call_of}
use Rattle.store.specs.declared.Stored.{Stored}
use Rattle.day.specs.Model.{call_list}
use Rattle.tables.specs.declared.Refusal.{Refusal}

-- ---- on a buffer

-- the buffer after the calls
unfoldable pub buffer_after : List Call → List ℕ → List ℕ
buffer_after [] b = b
buffer_after (c ∷ cs) b = buffer_after cs (call_of c b).buffer

-- what each answered
unfoldable pub answers_of : List Call → List ℕ → List (Result Stored Refusal)
answers_of [] b = []
answers_of (c ∷ cs) b = (call_of c b).answer ∷ answers_of cs (call_of c b).buffer

-- ---- on the simple list

module _ {A : Type 0} (ok : ℕ → ℕ → A → Bool) (read : List ℕ → A) where
  -- the list after the calls
  unfoldable pub list_after : List Call → List (Option A) → List (Option A)
  list_after [] l = l
  list_after (c ∷ cs) l = list_after cs (call_list ok read c l).spots

  -- what each answered
  unfoldable pub list_answers : List Call → List (Option A) → List (Result Stored Refusal)
  list_answers [] l = []
  list_answers (c ∷ cs) l = (call_list ok read c l).answer ∷ list_answers cs (call_list ok read c l).spots

-- ---- what a buffer stands for

module _ {A : Type 0} (read : List ℕ → A) where
  -- a slot: none where it is free, else what `read` makes of its bytes
  unfoldable pub spot_of : List ℕ → Option A
  spot_of s = cond (is_free s) none (some (read s))

  -- a buffer's slots
  abbrev pub spots_by : List ℕ → List (Option A)
  spots_by b = map spot_of (slots_of b)

-- a spot as its record
abbrev pub record_in : List ℕ → Record
record_in s = record_from s 0

-- the live records with their slots
abbrev pub spots_of : List ℕ → List (Option Record)
spots_of b = spots_by record_in b

-- a spot as its bytes
abbrev pub bytes_in : List ℕ → List ℕ
bytes_in s = s
