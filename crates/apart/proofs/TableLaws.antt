-- Laws of the table's slots after a run of stores. Assumes nothing.
use Prim.Native.Nat.{ℕ, ◌+◌, ◌≤◌, ◌<◌}
use native.Mathlib.Omega.{arith}
use mathlib.Core.Path.{◌≡◌}
use mathlib.Core.Logic.{◌⊎◌, inl, inr}
use mathlib.Core.List.{List}
use lib.ListN.{length, get_or}
use lib.Seq.{sets}
use Rattle.words.proofs.Stores.{sets-before, sets-past, part_kept}
use Rattle.words.proofs.WordsLaws.{word_kept}
use Rattle.desks.specs.Table.{set_place, owner_place, count_place, slot_of}

-- a byte that a run of stores does not reach is kept
pub byte_kept : (vs l : List ℕ) (at k : ℕ) → (k < at) ⊎ (at + length vs ≤ k) → get_or (sets l at vs) k 0 ≡ get_or l k 0
byte_kept vs l at k (inl h) = sets-before vs l at k 0 h
byte_kept vs l at k (inr h) = sets-past vs l at k 0 h

-- a run of n stores from the byte at on lies outside the slot i
pub record Apart (i at n : ℕ) : Type 0 where
  pub bytes : (set_place i + 528 ≤ at) ⊎ (at + n ≤ set_place i)
  pub owner : (owner_place i < at) ⊎ (at + n ≤ owner_place i)
  pub count : (count_place i + 4 ≤ at) ⊎ (at + n ≤ count_place i)

-- and leaves it as it was
pub slot_kept : (vs t : List ℕ) (at i : ℕ) → Apart i at (length vs) → slot_of (sets t at vs) i ≡ slot_of t i
unfolding slot_of
slot_kept vs t at i p = rw (part_kept vs t at (set_place i) 528 0 p.bytes, byte_kept vs t at (owner_place i) p.owner, word_kept vs t at (count_place i) p.count)

-- what lies in the slot j lies outside every other
module _ (i j : ℕ) (hi : i < 8) (hj : j < 8) where
  pub set_apart : (i < j) ⊎ (j < i) → Apart i (set_place j) 528
  set_apart (inl l) = record { bytes = inl (omega arith); owner = inr (omega arith); count = inr (omega arith) }
  set_apart (inr l) = record { bytes = inr (omega arith); owner = inr (omega arith); count = inr (omega arith) }

  pub owner_apart : (i < j) ⊎ (j < i) → Apart i (owner_place j) 1
  owner_apart (inl l) = record { bytes = inl (omega arith); owner = inl (omega arith); count = inr (omega arith) }
  owner_apart (inr l) = record { bytes = inl (omega arith); owner = inr (omega arith); count = inr (omega arith) }

  pub count_apart : (i < j) ⊎ (j < i) → Apart i (count_place j) 4
  count_apart (inl l) = record { bytes = inl (omega arith); owner = inl (omega arith); count = inl (omega arith) }
  count_apart (inr l) = record { bytes = inl (omega arith); owner = inl (omega arith); count = inr (omega arith) }
