-- Detection's bytes as the join takes them. Definitions only.
use Rattle.std.specs.Prelude.{ℕ, ◌*◌, ◌/◌, ◌%◌, ◌≤◌, ◌<◌, ◌≡◌, true, false, List, length, Ok, Err}
use Rattle.tables.specs.declared.Set.{Set}
use Rattle.tables.specs.declared.Refusal.TheVariants.{Records}
use Rattle.tables.specs.Set.{good}
use Rattle.tables.specs.Refusal.{first_of}
use Rattle.record.specs.declared.Record.{Record}
use Rattle.record.specs.Layout.{spot_width, record_at}
use Rattle.record.specs.Readable.{readable}
use Rattle.sized.specs.Sized.{sized_width}
use Rattle.join.specs.Join.{join_checks, join_of}
use Rattle.demands.specs.List.{StandsAt}

-- the bytes b are the first count of the records found, and the join accepts them on a map of rows by cols, whatever good set it is given
pub record Joins (rows cols : ℕ) (found : List Record) (count : ℕ) (b : List ℕ) : Type 0 where
  -- they are count whole records
  pub whole : length b % spot_width ≡ 0
  pub count-is : length b / spot_width ≡ count
  -- the i-th is read back as it was found, and is readable
  pub as_found : (i : ℕ) → i < count → StandsAt found i (record_at b i)
  pub each-readable : (i : ℕ) → i < count → readable rows cols (record_at b i) ≡ true
  -- whatever the set and the room, refusal 5 does not arise
  pub not_records : (t : Set) (room i : ℕ) → first_of (join_checks false t rows cols b room) ≡ Err (Records i) → ⊥
  -- with a good set and room for the sized records none does
  pub fine : (t : Set) (room : ℕ) → good t ≡ true → count * sized_width ≤ room → first_of (join_checks false t rows cols b room) ≡ Ok tt
  -- and the join answers their count
  pub answer : (t : Set) (out : List ℕ) → good t ≡ true → count * sized_width ≤ length out → (join_of t rows cols b out).answer ≡ Ok count
