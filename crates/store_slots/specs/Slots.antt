-- A buffer as slots of one record's bytes each, the free slot, and a search. Definitions only.
use Rattle.std.specs.Prelude.{ℕ, zero, suc, ◌/◌, Bool, true, false, not, cond, ◌&&◌, ◌||◌, List, [], ◌∷◌, ◌++◌, eqb, length, take, drop, set, replicate}
use Rattle.record.specs.Layout.{spot_width, record_from}
use Rattle.record.specs.Readable.{readable}

-- where a record's polarity byte stands
abbrev pub mark : ℕ
mark = 38

-- a free slot: polarity byte 255, its other bytes 0
unfoldable pub free_bytes : List ℕ
free_bytes = set (replicate spot_width 0) mark 255

-- two lists of bytes are the same
unfoldable pub same : List ℕ → List ℕ → Bool
same [] [] = true
same [] (y ∷ ys) = false
same (x ∷ xs) [] = false
same (x ∷ xs) (y ∷ ys) = eqb x y && same xs ys

-- a slot is free
unfoldable pub is_free : List ℕ → Bool
is_free s = same s free_bytes

-- a slot is bad: it is not free, and its record is not readable
unfoldable pub bad_slot : ℕ → ℕ → List ℕ → Bool
bad_slot rows cols s = not (is_free s || readable rows cols (record_from s 0))

-- the first n slots of a buffer
unfoldable pub slots_from : ℕ → List ℕ → List (List ℕ)
slots_from zero b = []
slots_from (suc n) b = take spot_width b ∷ slots_from n (drop spot_width b)

-- its whole slots
abbrev pub slots_of : List ℕ → List (List ℕ)
slots_of b = slots_from (length b / spot_width) b

-- slots, one after the other
unfoldable pub flat : List (List ℕ) → List ℕ
flat [] = []
flat (s ∷ ss) = s ++ flat ss

-- the place of the first slot that the test holds of; their number where it holds of none
unfoldable pub first_where : (List ℕ → Bool) → List (List ℕ) → ℕ
first_where test [] = 0
first_where test (s ∷ ss) = cond (test s) 0 (suc (first_where test ss))
