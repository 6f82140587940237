-- What each call of the store answers, and what it leaves in the buffer, as one value of its input. Definitions only.
use Rattle.std.specs.Prelude.{ℕ, ◌-◌, ◌/◌, ◌%◌, Bool, not, cond, ◌&&◌, List, [], ◌∷◌, ◌++◌, ltb, leb, eqb, length, get_or, set, replicate, Result, Ok, Err, ⊤}
use Rattle.tables.specs.declared.Refusal.TheVariants.{Records, Room, NoSpot}
use Rattle.tables.specs.declared.Refusal.{Refusal}
use Rattle.tables.specs.Refusal.{Check, ◌when◌, first_of, sides_check}
use Rattle.record.specs.Layout.{spot_width, record_from}
use Rattle.record.specs.Readable.{readable}
use Rattle.store_slots.specs.Slots.{free_bytes, is_free, bad_slot, slots_of, flat, first_where}
use Rattle.store.specs.declared.Stored.{Stored}
use Rattle.store.specs.declared.Stored.TheVariants.{Done, At, Live}

-- what may be called: clear; and with the caller's rows and cols add a record's bytes, strike a slot, close up
pub data Call : Type 0 where
  Clear : Call
  Add : ℕ → ℕ → List ℕ → Call
  Strike : ℕ → ℕ → ℕ → Call
  CloseUp : ℕ → ℕ → Call

-- ---- what is checked

-- a new record is good: as long as a slot, and readable
unfoldable pub good_new : ℕ → ℕ → List ℕ → Bool
good_new rows cols new = eqb (length new) spot_width && readable rows cols (record_from new 0)

-- 5: the buffer isn't whole slots, with the number of whole ones
abbrev pub whole_check : List ℕ → Check
whole_check b = Records (length b / spot_width) when not (eqb (length b % spot_width) 0)

-- 5: a slot is bad, with the first one's place
abbrev pub slots_check : ℕ → ℕ → List ℕ → Check
slots_check rows cols b = Records (first_where (bad_slot rows cols) (slots_of b)) when ltb (first_where (bad_slot rows cols) (slots_of b)) (length b / spot_width)

-- 5: the new record is not good, with the slot count
abbrev pub new_check : ℕ → ℕ → List ℕ → List ℕ → Check
new_check rows cols new b = Records (length b / spot_width) when not (good_new rows cols new)

-- 6: no slot is free
abbrev pub room_check : List ℕ → Check
room_check b = Room when leb (length b / spot_width) (first_where is_free (slots_of b))

-- 13: the slot is free, or past the end, which is read as free
abbrev pub spot_check : ℕ → List ℕ → Check
spot_check i b = NoSpot when is_free (get_or (slots_of b) i free_bytes)

-- a call's checks, in its order
unfoldable pub call_checks : Call → List ℕ → List Check
call_checks Clear b = whole_check b ∷ []
call_checks (Add rows cols new) b = sides_check rows cols ∷ whole_check b ∷ slots_check rows cols b ∷ new_check rows cols new b ∷ room_check b ∷ []
call_checks (Strike rows cols i) b = sides_check rows cols ∷ whole_check b ∷ slots_check rows cols b ∷ spot_check i b ∷ []
call_checks (CloseUp rows cols) b = sides_check rows cols ∷ whole_check b ∷ slots_check rows cols b ∷ []

-- ---- what is done

-- the slots that are not free, in their order
unfoldable pub live_slots : List (List ℕ) → List (List ℕ)
live_slots [] = []
live_slots (s ∷ ss) = cond (is_free s) (live_slots ss) (s ∷ live_slots ss)

-- these first, then free ones
unfoldable pub closed_up : List (List ℕ) → List (List ℕ)
closed_up ss = live_slots ss ++ replicate (length ss - length (live_slots ss)) free_bytes

-- the answer: adding gives the lowest free slot, closing up the number of live ones
unfoldable pub answer_of : Call → List (List ℕ) → Result Stored Refusal
answer_of Clear ss = Ok Done
answer_of (Add rows cols new) ss = Ok (At (first_where is_free ss))
answer_of (Strike rows cols i) ss = Ok Done
answer_of (CloseUp rows cols) ss = Ok (Live (length (live_slots ss)))

-- the slots afterwards
unfoldable pub slots_after : Call → List (List ℕ) → List (List ℕ)
slots_after Clear ss = replicate (length ss) free_bytes
slots_after (Add rows cols new) ss = set ss (first_where is_free ss) new
slots_after (Strike rows cols i) ss = set ss i free_bytes
slots_after (CloseUp rows cols) ss = closed_up ss

-- ---- a call

-- an answer, and the whole buffer after it
pub record Outcome : Type 0 where
  pub answer : Result Stored Refusal
  pub buffer : List ℕ

-- these two, given one by one
abbrev pub outcome : Result Stored Refusal → List ℕ → Outcome
outcome a b = record { answer = a; buffer = b }

-- a refusal leaves the buffer as it was; otherwise the call is done
unfoldable pub finished : Result ⊤ Refusal → List ℕ → Outcome → Outcome
finished (Err r) b o = outcome (Err r) b
finished (Ok _) b o = o

-- the whole of a call
unfoldable pub call_of : Call → List ℕ → Outcome
call_of c b = finished (first_of (call_checks c b)) b (outcome (answer_of c (slots_of b)) (flat (slots_after c (slots_of b))))
