-- The words of the claims about the store. Definitions only.
use Rattle.std.specs.Prelude.{ℕ, ◌*◌, ◌/◌, ◌%◌, ◌≤◌, ◌<◌, true, false, List, ◌≡◌, length, get_or, take}
use Rattle.record.specs.Layout.{spot_width}
use Rattle.store_slots.specs.Slots.{free_bytes, is_free, slots_of, bad_slot}
use Rattle.store.specs.Store.{good_new}

-- the i-th slot of a buffer; past the end a free one
abbrev pub slot_at : List ℕ → ℕ → List ℕ
slot_at b i = get_or (slots_of b) i free_bytes

-- a buffer isn't whole slots, and i is the number of whole ones
pub record WrongLength (b : List ℕ) (i : ℕ) : Type 0 where
  pub broken : length b % spot_width ≡ 0 → ⊥
  pub count : i ≡ length b / spot_width

-- a buffer is whole slots, and its i-th is the first that is neither free nor readable
pub record FirstBad (rows cols : ℕ) (b : List ℕ) (i : ℕ) : Type 0 where
  pub whole : length b % spot_width ≡ 0
  pub inside : i < length b / spot_width
  pub bad : bad_slot rows cols (slot_at b i) ≡ true
  pub earlier : (k : ℕ) → k < i → bad_slot rows cols (slot_at b k) ≡ false

-- a record to add is not as long as a slot or not readable, and i is the number of slots
pub record BadNew (rows cols : ℕ) (new b : List ℕ) (i : ℕ) : Type 0 where
  pub bad : good_new rows cols new ≡ false
  pub count : i ≡ length b / spot_width

-- the slot i is free, and each lower one is live
pub record Lowest (b : List ℕ) (i : ℕ) : Type 0 where
  pub inside : i < length b / spot_width
  pub free : is_free (slot_at b i) ≡ true
  pub lower : (k : ℕ) → k < i → is_free (slot_at b k) ≡ false

-- each slot is live
abbrev pub Full : List ℕ → Type 0
Full b = (k : ℕ) → k < length b / spot_width → is_free (slot_at b k) ≡ false

-- the first n slots are live, and the others free
pub record Closed (b : List ℕ) (n : ℕ) : Type 0 where
  pub live : (k : ℕ) → k < n → is_free (slot_at b k) ≡ false
  pub rest : (k : ℕ) → n ≤ k → is_free (slot_at b k) ≡ true

-- the first n slots' bytes
abbrev pub list_of : List ℕ → ℕ → List ℕ
list_of b n = take (n * spot_width) b
