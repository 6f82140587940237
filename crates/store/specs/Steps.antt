-- The steps of freeing slots and of moving live ones down, as values of the buffer. Definitions only.
use Rattle.std.specs.Prelude.{ℕ, suc, ◌-◌, ◌/◌, ◌%◌, cond, List, [], ◌++◌, ◌≡◌, length, get_or, take, set, replicate}
use Rattle.record.specs.Layout.{spot_width}
use Rattle.store_slots.specs.Slots.{free_bytes, is_free, slots_of, flat}

-- a buffer is whole slots
abbrev pub Whole : List ℕ → Type 0
Whole b = length b % spot_width ≡ 0

-- the slots from the i-th on freed
unfoldable pub freed : List ℕ → ℕ → List ℕ
freed b i = flat (take i (slots_of b) ++ replicate (length b / spot_width - i) free_bytes)

-- where the slot i is moved to the place n if it is live: the next place
unfoldable pub moved : List ℕ → ℕ → ℕ → ℕ
moved b i n = cond (is_free (get_or (slots_of b) i [])) n (suc n)

-- and the buffer
unfoldable pub moved_to : List ℕ → ℕ → ℕ → List ℕ
moved_to b i n = cond (is_free (get_or (slots_of b) i [])) b (flat (set (slots_of b) n (get_or (slots_of b) i [])))
