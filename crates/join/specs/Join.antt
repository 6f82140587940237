-- What the join answers, and what it leaves in the buffer, as one value of its input. Definitions only.
use Rattle.std.specs.Prelude.{ℕ, zero, suc, ◌*◌, ◌/◌, ◌%◌, ◌≤◌, ◌<◌, Bool, true, false, not, cond, List, [], ◌∷◌, ◌++◌, length, drop, ltb, eqb, Result, Ok, Err, ⊤}
use Rattle.tables.specs.declared.Set.{Set}
use Rattle.tables.specs.declared.Refusal.{Refusal}
use Rattle.tables.specs.declared.Refusal.TheVariants.{Records, Room}
use Rattle.tables.specs.Refusal.{Check, ◌when◌, first_of, sides_check, set_check}
use Rattle.record.specs.declared.Record.{Record}
use Rattle.record.specs.Readable.{readable}
use Rattle.sized.specs.Sized.{Placed}
use Rattle.join.specs.Forms.{width_of, sized_width_of, record_in, sized_in}

-- n records of a list's bytes, from the i-th on
unfoldable pub records_from : Bool → List ℕ → ℕ → ℕ → List Record
records_from old b zero i = []
records_from old b (suc n) i = record_in old b i ∷ records_from old b n (suc i)

-- a list's records
abbrev pub records_of : Bool → List ℕ → List Record
records_of old b = records_from old b (length b / width_of old) 0

-- the index of the first of n records, from the i-th on, that is bad; i + n where none is
unfoldable pub first_bad : Bool → ℕ → ℕ → List ℕ → ℕ → ℕ → ℕ
first_bad old rows cols b zero i = i
first_bad old rows cols b (suc n) i = cond (readable rows cols (record_in old b i)) (first_bad old rows cols b n (suc i)) i

-- the index of a list's first bad record; their number where none is
abbrev pub bad_of : Bool → ℕ → ℕ → List ℕ → ℕ
bad_of old rows cols b = first_bad old rows cols b (length b / width_of old) 0

-- the join's checks in its order. 1: a side is too long; 4: the set is not good; 5: the length is no multiple of a record's width, with the whole record count;
-- 5: a record is bad, with the first one's index; 6: the buffer is shorter than needed
unfoldable pub join_checks : Bool → Set → ℕ → ℕ → List ℕ → ℕ → List Check
join_checks old s rows cols b room =
    sides_check rows cols
    ∷ set_check s
    ∷ (Records (length b / width_of old) when not (eqb (length b % width_of old) 0))
    ∷ (Records (bad_of old rows cols b) when ltb (bad_of old rows cols b) (length b / width_of old))
    ∷ (Room when ltb room (length b / width_of old * sized_width_of old))
    ∷ []

-- the checks of a list's records by themselves, in their order: the join's own two. 5: the length is no multiple of a record's width, with the whole record count;
-- 5: a record is bad, with the first one's index
abbrev pub records_checks : Bool → ℕ → ℕ → List ℕ → List Check
records_checks old rows cols b =
    (Records (length b / width_of old) when not (eqb (length b % width_of old) 0))
    ∷ (Records (bad_of old rows cols b) when ltb (bad_of old rows cols b) (length b / width_of old))
    ∷ []

-- sized records, one after the other
unfoldable pub sized_all : Bool → Set → List Record → List ℕ
sized_all old s [] = []
sized_all old s (r ∷ rs) = sized_in old s r ++ sized_all old s rs

-- an answer, and the whole buffer after it
pub record Outcome : Type 0 where
  pub answer : Result ℕ Refusal
  pub buffer : List ℕ

-- these two, given one by one
abbrev pub outcome : Result ℕ Refusal → List ℕ → Outcome
outcome a b = record { answer = a; buffer = b }

-- the sized records first, then the bytes that were there
unfoldable pub laid_sized : Bool → Set → List ℕ → List ℕ → List ℕ
laid_sized old s b out = let sized = sized_all old s (records_of old b) in sized ++ drop (length sized) out

-- a refusal writes nothing; otherwise the record count is answered, and the bytes past the sized records are kept
unfoldable pub joined : Bool → Result ⊤ Refusal → Set → List ℕ → List ℕ → Outcome
joined old (Err r) s b out = outcome (Err r) out
joined old (Ok _) s b out = outcome (Ok (length b / width_of old)) (laid_sized old s b out)

-- the whole of the join, of an old list or a present one
unfoldable pub join_by : Bool → Set → ℕ → ℕ → List ℕ → List ℕ → Outcome
join_by old s rows cols b out = joined old (first_of (join_checks old s rows cols b (length out))) s b out

-- the join
abbrev pub join_of : Set → ℕ → ℕ → List ℕ → List ℕ → Outcome
join_of = join_by false

-- the join of an old list
abbrev pub join_old_of : Set → ℕ → ℕ → List ℕ → List ℕ → Outcome
join_old_of = join_by true

-- a list each of whose records is placed, and a buffer of that room holds them all sized
pub record Writable (old : Bool) (b : List ℕ) (room : ℕ) : Type 0 where
  pub placed : (i : ℕ) → i < length b / width_of old → Placed (record_in old b i)
  pub enough : length b / width_of old * sized_width_of old ≤ room
