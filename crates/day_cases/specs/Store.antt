-- Cases of a store of a day's spots. Definitions only.
use Rattle.std.specs.Prelude.{ℕ, List, [], ◌∷◌, ◌++◌, replicate, set, take}
use Rattle.store_slots.specs.Slots.{free_bytes}
use Rattle.store.specs.Store.{Call, Clear, Add, Strike, CloseUp, call_of}
use Rattle.face_store.specs.Face.{stored_packed}
use Rattle.cases.specs.Case.{Case}
use Rattle.cases.specs.MapM.{bytes_m, minimum_m}

-- a slot with the free mark, and a 1 in its last byte
unfoldable pub damaged : List ℕ
damaged = set free_bytes 47 1

-- what a call answers, as its number and its value
unfoldable pub told_case : Call → List ℕ → ℕ → ℕ → Case
told_case c b number value = record {
  given = (stored_packed (call_of c b).answer).number ∷ (stored_packed (call_of c b).answer).value ∷ [];
  due = number ∷ value ∷ [];
}

-- and what it leaves
unfoldable pub left_case : Call → List ℕ → List ℕ → Case
left_case c b due = record { given = (call_of c b).buffer; due = due }

-- ---- the cases of request No. 10

-- what is done, and answered
unfoldable pub answers : List Case
answers =
    -- Clearing asks for whole slots alone; what stands in them is nothing to it.
    told_case Clear (replicate 96 7) 0 0
    ∷ told_case Clear [] 0 0
    ∷ told_case Clear (replicate 95 0) 5 1
    -- Adding answers the lowest free slot.
    ∷ told_case (Add 9 10 bytes_m) (free_bytes ++ (bytes_m ++ free_bytes)) 0 0
    ∷ told_case (Add 9 10 bytes_m) (bytes_m ++ (free_bytes ++ free_bytes)) 0 1
    ∷ told_case (Add 9 10 bytes_m) (bytes_m ++ (minimum_m ++ free_bytes)) 0 2
    -- Striking is done at a live slot, and 13 at a free one, at the count and past it.
    ∷ told_case (Strike 9 10 1) (free_bytes ++ bytes_m) 0 0
    ∷ told_case (Strike 9 10 0) (free_bytes ++ bytes_m) 13 0
    ∷ told_case (Strike 9 10 2) (free_bytes ++ bytes_m) 13 0
    ∷ told_case (Strike 9 10 18446744073709551615) (free_bytes ++ bytes_m) 13 0
    -- Closing up answers the live number.
    ∷ told_case (CloseUp 9 10) (free_bytes ++ (bytes_m ++ (free_bytes ++ minimum_m))) 0 2
    ∷ told_case (CloseUp 9 10) [] 0 0
    ∷ []

-- what is refused, and what stands before it in the order
unfoldable pub refusals : List Case
refusals =
    -- No slot is free: 6; with a bad record, or one of another length, 5 with the slot count.
    told_case (Add 9 10 bytes_m) (bytes_m ++ minimum_m) 6 0
    ∷ told_case (Add 9 10 bytes_m) [] 6 0
    ∷ told_case (Add 9 10 damaged) (bytes_m ++ minimum_m) 5 2
    ∷ told_case (Add 9 10 (take 47 bytes_m)) (bytes_m ++ minimum_m) 5 2
    ∷ told_case (Add 9 10 (bytes_m ++ (0 ∷ []))) free_bytes 5 1
    -- A free slot's bytes are no record.
    ∷ told_case (Add 9 10 free_bytes) free_bytes 5 1
    -- The free mark with another byte not 0 is 5 at that slot, before the new record and before 13.
    ∷ told_case (Add 9 10 damaged) (free_bytes ++ damaged) 5 1
    ∷ told_case (Strike 9 10 0) (free_bytes ++ damaged) 5 1
    ∷ told_case (CloseUp 9 10) (damaged ++ damaged) 5 0
    -- A record that is fine on a map of 9 by 10 is bad on one of 4 by 10, whose keys end at 39.
    ∷ told_case (CloseUp 4 10) (free_bytes ++ bytes_m) 5 1
    -- A length that isn't whole slots stands before the slots, and 1 before both.
    ∷ told_case (CloseUp 9 10) (damaged ++ (0 ∷ [])) 5 1
    ∷ told_case (Strike 4097 10 0) (damaged ++ (0 ∷ [])) 1 0
    ∷ told_case (Add 9 4097 damaged) damaged 1 0
    ∷ []

-- what the buffer holds afterwards
unfoldable pub left : List Case
left =
    left_case Clear (replicate 96 7) (free_bytes ++ free_bytes)
    ∷ left_case Clear (replicate 95 7) (replicate 95 7)
    ∷ left_case (Add 9 10 bytes_m) (minimum_m ++ free_bytes) (minimum_m ++ bytes_m)
    ∷ left_case (Strike 9 10 0) (bytes_m ++ minimum_m) (free_bytes ++ minimum_m)
    ∷ left_case (CloseUp 9 10) (free_bytes ++ (bytes_m ++ (free_bytes ++ minimum_m))) (bytes_m ++ (minimum_m ++ (free_bytes ++ free_bytes)))
    ∷ left_case (CloseUp 9 10) (bytes_m ++ (free_bytes ++ damaged)) (bytes_m ++ (free_bytes ++ damaged))
    ∷ []
