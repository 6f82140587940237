-- What a desk's call answers, and what it leaves of the table, as one value of its input. Definitions only.
use Rattle.std.specs.Prelude.{ℕ, suc, Bool, not, ◌&&◌, List, [], ◌∷◌, leb, ltb, eqb, length, set, replicate, Result, Ok, Err, ⊤}
use Rattle.std.proofs.lemmas.List.Edits.{sets}
use Rattle.words.specs.Words.{word_bytes}
use Rattle.tables.specs.declared.Refusal.TheVariants as refusal
use Rattle.tables.specs.declared.Refusal.{Refusal}
use Rattle.tables.specs.Refusal.{Check, ◌when◌, first_of}
use Rattle.tables.specs.Set.{good_record}
use Rattle.desks.specs.Table.{table_width, set_place, owner_place, count_place, Slot, slot_of, a_desk}

-- what a desk may call: claim a free slot, write a set record into one of its own, give one of its own back
pub data Act : Type 0 where
  Claim : Act
  Write : List ℕ → Act
  Release : Act

-- ---- what is checked

-- the table is 4,264 bytes long, the desk 1 or 2, and the slot one of the eight
unfoldable pub usable : ℕ → ℕ → List ℕ → Bool
usable desk i t = eqb (length t) table_width && a_desk desk && ltb i 8

-- whose the slot must be: a claim takes a free one, a write and a release one of the desk's own
unfoldable pub needed : Act → ℕ → ℕ
needed Claim desk = 0
needed (Write new) desk = desk
needed Release desk = desk

-- the largest count: a u32 is at most this
abbrev pub top : ℕ
top = 4294967295

-- 11: table, desk or slot is not usable, or the slot is not whose it must be
abbrev pub yours_check : Act → ℕ → Bool → Slot → Check
yours_check act desk u s = refusal.NotYours when not (u && eqb s.owner (needed act desk))

-- 12: the slot's count is the largest
abbrev pub count_check : Slot → Check
count_check s = refusal.Count when leb top s.count

-- 4: the new record is not good
abbrev pub record_check : List ℕ → Check
record_check new = refusal.BadSet when not (good_record new)

-- a call's checks, in its order, by whether table, desk and slot are usable, and by the slot alone
unfoldable pub call_checks : Act → ℕ → Bool → Slot → List Check
call_checks Claim desk u s = yours_check Claim desk u s ∷ count_check s ∷ []
call_checks (Write new) desk u s = yours_check (Write new) desk u s ∷ count_check s ∷ record_check new ∷ []
call_checks Release desk u s = yours_check Release desk u s ∷ []

-- ---- what is stored

-- the record of a claimed slot: all zeros
unfoldable pub zeros : List ℕ
zeros = replicate 528 0

-- a claim zeroes the set and stores the owner, a write stores the set, and each adds one to the count; a release clears the owner byte alone
unfoldable pub stored : Act → ℕ → ℕ → List ℕ → List ℕ
stored Claim desk i t = sets (set (sets t (set_place i) zeros) (owner_place i) desk) (count_place i) (word_bytes (suc (slot_of t i).count))
stored (Write new) desk i t = sets (sets t (set_place i) new) (count_place i) (word_bytes (suc (slot_of t i).count))
stored Release desk i t = set t (owner_place i) 0

-- ---- a call

-- an answer, and the whole table after it
pub record Outcome : Type 0 where
  pub answer : Result ⊤ Refusal
  pub table : List ℕ

-- these two, given one by one
abbrev pub outcome : Result ⊤ Refusal → List ℕ → Outcome
outcome a t = record { answer = a; table = t }

-- a refusal leaves the table as it was; otherwise it is the new one
unfoldable pub finished : Result ⊤ Refusal → List ℕ → List ℕ → Outcome
finished (Err r) t new = outcome (Err r) t
finished (Ok _) t new = outcome (Ok tt) new

-- the whole of a call
unfoldable pub call_of : Act → List ℕ → ℕ → ℕ → Outcome
call_of act t desk i = finished (first_of (call_checks act desk (usable desk i t) (slot_of t i))) t (stored act desk i t)
