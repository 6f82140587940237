-- The table's bytes: eight set records, eight owner bytes, eight write counts. Definitions only.
use Rattle.std.specs.Prelude.{ℕ, ◌+◌, ◌*◌, ◌<◌, Bool, ◌&&◌, ◌||◌, List, ◌≡◌, ltb, eqb, length, get_or, take, drop}
use Rattle.words.specs.Words.{word_from}
use Rattle.tables.specs.declared.Set.{Set}
use Rattle.tables.specs.Refusal.{read_or_blank}

-- how many bytes a table has
abbrev pub table_width : ℕ
table_width = 4264

-- where the set record of the slot i begins
abbrev pub set_place : ℕ → ℕ
set_place i = i * 528

-- where its owner byte is
abbrev pub owner_place : ℕ → ℕ
owner_place i = 4224 + i

-- where its write count begins
abbrev pub count_place : ℕ → ℕ
count_place i = 4232 + i * 4

-- a slot: its set record, its owner (0 free, 1 daily, 2 reprocessing), and how many claims and writes of it were done
pub record Slot : Type 0 where
  pub bytes : List ℕ
  pub owner : ℕ
  pub count : ℕ

-- the slot i of a table
unfoldable pub slot_of : List ℕ → ℕ → Slot
slot_of t i = record {
  bytes = take 528 (drop (set_place i) t);
  owner = get_or t (owner_place i) 0;
  count = word_from t (count_place i);
}

-- a table of the right length, and one of its slots
pub record At (t : List ℕ) (i : ℕ) : Type 0 where
  pub long : length t ≡ table_width
  pub inside : i < 8

-- the set found in a slot: that of its record, and the set of zeros, which is not good, where the record is bad
abbrev pub set_in : Slot → Set
set_in s = read_or_blank s.bytes

-- one of the two desks
abbrev pub a_desk : ℕ → Bool
a_desk n = eqb n 1 || eqb n 2

-- detection may be run from a slot: the table is 4,264 bytes long, the slot one of the eight, and its owner a desk
unfoldable pub runnable : List ℕ → ℕ → Bool
runnable t i = eqb (length t) table_width && ltb i 8 && a_desk (slot_of t i).owner
