-- The words of the claims about the join. Definitions only.
use Rattle.std.specs.Prelude.{ℕ, ◌/◌, ◌%◌, ◌<◌, Bool, true, false, List, ◌⊎◌, ◌≡◌, length}
use Rattle.tables.specs.declared.Refusal.{Refusal}
use Rattle.tables.specs.declared.Refusal.TheVariants.{Records}
use Rattle.record.specs.Readable.{readable}
use Rattle.join.specs.Forms.{width_of, record_in}

-- a list's length is no multiple of a record's width, and i is its whole record count
pub record WrongLength (old : Bool) (b : List ℕ) (i : ℕ) : Type 0 where
  pub broken : length b % width_of old ≡ 0 → ⊥
  pub count : i ≡ length b / width_of old

-- a list's length is a multiple of a record's width, and its i-th record is the first bad one
pub record FirstBad (old : Bool) (rows cols : ℕ) (b : List ℕ) (i : ℕ) : Type 0 where
  pub whole : length b % width_of old ≡ 0
  pub inside : i < length b / width_of old
  pub bad : readable rows cols (record_in old b i) ≡ false
  pub earlier : (k : ℕ) → k < i → readable rows cols (record_in old b k) ≡ true

-- a list is refused with 5, and beside it the index that its length or its first bad record gives
pub record Fault (old : Bool) (rows cols : ℕ) (b : List ℕ) (r : Refusal) : Type 0 where
  pub index : ℕ
  pub refusal : r ≡ Records index
  pub reason : WrongLength old b index ⊎ FirstBad old rows cols b index
