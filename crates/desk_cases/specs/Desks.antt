-- Cases of the table that two desks share, and of runs from its slots. Definitions only.
use Rattle.std.specs.Prelude.{ℕ, List, [], ◌∷◌, ◌++◌, replicate, take, get_or, Float}
use Rattle.float.specs.Num.{f0}
use Rattle.words.specs.Words.{word_bytes, float_bytes}
use Rattle.tables.specs.declared.Set.{Set}
use Rattle.tables.specs.SetT.{sigmas_t, cubic_t, numbers_t, set_t}
use Rattle.detect.specs.Detect as detection
use Rattle.desks.specs.Table.{Slot, slot_of}
use Rattle.desks.specs.Desks.{Act, Claim, Write, Release, call_of}
use Rattle.desk_run.specs.Run.{run_of}
use Rattle.face_detect.specs.Face.{packed}
use Rattle.face_desks.specs.Face.{told_number}
use Rattle.cases.specs.Case.{Case}
use Rattle.cases.specs.MapM.{zeros, put, level_m, thresholds_m, bytes_m}

-- the bytes of floats, one after the other
unfoldable pub floats_bytes : List Float → List ℕ
floats_bytes [] = []
floats_bytes (x ∷ xs) = float_bytes x ++ floats_bytes xs

-- a set's record
unfoldable pub set_record : Set → List ℕ
set_record s = floats_bytes (s.sigmas ++ (s.scale ++ (s.geometry ++ (s.spatial ++ s.numbers)))) ++ (s.order ++ (0 ∷ 0 ∷ 0 ∷ []))

-- set T's
unfoldable pub record_t : List ℕ
record_t = set_record set_t

-- that of set T without its spatial entries: a good set, under which map M has no spot
unfoldable pub record_flat : List ℕ
record_flat = set_record (record {
  sigmas = sigmas_t;
  scale = cubic_t;
  geometry = cubic_t;
  spatial = replicate 90 f0;
  numbers = numbers_t;
  order = 0 ∷ 1 ∷ 2 ∷ 3 ∷ 4 ∷ 5 ∷ 6 ∷ 7 ∷ 8 ∷ [];
})

-- a table whose slots are free, unwritten and zeros, but for slot 0: with this record, this owner and this count
unfoldable pub holding : List ℕ → ℕ → ℕ → List ℕ
holding bytes owner count = bytes ++ (replicate 3696 0 ++ (owner ∷ (replicate 7 0 ++ (word_bytes count ++ replicate 28 0))))

-- the same with zeros for a record; a new table is that of owner 0 and count 0
unfoldable pub empty : ℕ → ℕ → List ℕ
empty owner count = holding (replicate 528 0) owner count

-- the number that a call at a slot is answered
unfoldable pub told_case : Act → List ℕ → ℕ → ℕ → ℕ → Case
told_case act t desk i due = record { given = told_number (call_of act t desk i).answer ∷ []; due = due ∷ [] }

-- what is seen of slot 0: its owner, its count, and the third byte of its record (0x80 in set T's)
unfoldable pub seen : Slot → List ℕ
seen s = s.owner ∷ s.count ∷ get_or s.bytes 2 0 ∷ []

-- what is seen of slot 0 after a desk's call there
unfoldable pub slot_case : Act → List ℕ → ℕ → List ℕ → Case
slot_case act t desk due = record { given = seen (slot_of (call_of act t desk 0).table 0); due = due }

-- a run of map M in this octave from a slot, into 48 zeros
unfoldable pub ran_m : List ℕ → ℕ → ℕ → detection.Outcome
ran_m t i octave = run_of t i thresholds_m 9 10 octave level_m (put 4 4 0xbe800000 zeros) zeros zeros (replicate 48 0)

-- its number, its value, and the buffer
unfoldable pub run_case : List ℕ → ℕ → ℕ → List ℕ → Case
run_case t i octave due = record {
  given = (packed (ran_m t i octave).answer).number ∷ (packed (ran_m t i octave).answer).value ∷ (ran_m t i octave).buffer;
  due = due;
}

-- ---- the cases of request No. 9

-- what calls are answered
unfoldable pub answers : List Case
answers =
    -- A claim of a free slot is done, by either desk.
    told_case Claim (empty 0 0) 1 0 0
    ∷ told_case Claim (empty 0 0) 2 7 0
    -- 11 for a desk that is neither, a slot above 7, a table of another length, and a slot that is not free, nobody's too.
    ∷ told_case Claim (empty 0 0) 0 0 11
    ∷ told_case Claim (empty 0 0) 3 0 11
    ∷ told_case Claim (empty 0 0) 257 0 11
    ∷ told_case Claim (empty 0 0) 1 8 11
    ∷ told_case Claim (take 4263 (empty 0 0)) 1 0 11
    ∷ told_case Claim (empty 0 0 ++ (0 ∷ [])) 1 0 11
    ∷ told_case Claim (empty 1 1) 1 0 11
    ∷ told_case Claim (empty 2 1) 1 0 11
    ∷ told_case Claim (empty 3 1) 1 0 11
    ∷ told_case Claim (empty 255 1) 1 0 11
    -- Then 12 at the largest count, and not below; 11 comes before it.
    ∷ told_case Claim (empty 0 4294967294) 1 0 0
    ∷ told_case Claim (empty 0 4294967295) 1 0 12
    ∷ told_case Claim (empty 2 4294967295) 1 0 11
    -- A write takes the desk's own slot: 11 for a free one, the other's and nobody's, then 12, then 4.
    ∷ told_case (Write record_t) (empty 1 1) 1 0 0
    ∷ told_case (Write record_t) (empty 0 1) 1 0 11
    ∷ told_case (Write record_t) (empty 2 1) 1 0 11
    ∷ told_case (Write record_t) (empty 3 1) 1 0 11
    ∷ told_case (Write []) (empty 2 4294967295) 1 0 11
    ∷ told_case (Write []) (empty 1 4294967295) 1 0 12
    ∷ told_case (Write (replicate 528 0)) (empty 1 1) 1 0 4
    ∷ told_case (Write (take 527 record_t)) (empty 1 1) 1 0 4
    -- So does a release, which no count refuses.
    ∷ told_case Release (empty 1 4294967295) 1 0 0
    ∷ told_case Release (empty 2 1) 1 0 11
    ∷ told_case Release (empty 0 1) 1 0 11
    ∷ told_case Release (empty 3 1) 1 0 11
    ∷ []

-- what they leave of the slot: owner, count, and a byte of the record
unfoldable pub left : List Case
left =
    -- A claim zeroes the set and adds one; a write stores the record and adds one, over all four bytes of the count; a release clears the owner alone.
    slot_case Claim (holding record_t 0 255) 2 (2 ∷ 256 ∷ 0 ∷ [])
    ∷ slot_case (Write record_t) (empty 1 16777215) 1 (1 ∷ 16777216 ∷ 0x80 ∷ [])
    ∷ slot_case Release (holding record_t 1 2) 1 (0 ∷ 2 ∷ 0x80 ∷ [])
    -- A refused claim, write and release leave all three.
    ∷ slot_case Claim (holding record_t 1 2) 2 (1 ∷ 2 ∷ 0x80 ∷ [])
    ∷ slot_case (Write []) (holding record_t 1 2) 1 (1 ∷ 2 ∷ 0x80 ∷ [])
    ∷ slot_case Release (holding record_t 1 2) 2 (1 ∷ 2 ∷ 0x80 ∷ [])
    ∷ []

-- what a run is refused with: 11 from a free slot, nobody's, one above 7 and a table of another length, before detection's 3; from a claimed and unwritten slot
-- 3 before 4
unfoldable pub refusals : List Case
refusals =
    run_case (holding record_t 0 2) 0 6 (11 ∷ 0 ∷ replicate 48 0)
    ∷ run_case (holding record_t 3 2) 0 6 (11 ∷ 0 ∷ replicate 48 0)
    ∷ run_case (holding record_t 1 2) 8 6 (11 ∷ 0 ∷ replicate 48 0)
    ∷ run_case (take 4263 (holding record_t 1 2)) 0 6 (11 ∷ 0 ∷ replicate 48 0)
    ∷ run_case (empty 1 1) 0 6 (3 ∷ 0 ∷ replicate 48 0)
    ∷ run_case (empty 1 1) 0 0 (4 ∷ 0 ∷ replicate 48 0)
    ∷ []

-- from a slot with set T, either desk's, a run lists map M's spot
unfoldable pub spotted : Case
spotted = run_case (holding record_t 2 2) 0 0 (0 ∷ 1 ∷ bytes_m)

-- and with the flat set there is none: a run depends on the set that stands in the slot
unfoldable pub unspotted : Case
unspotted = run_case (holding record_flat 2 2) 0 0 (0 ∷ 0 ∷ replicate 48 0)
