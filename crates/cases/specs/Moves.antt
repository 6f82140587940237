-- Cases of displacements and of old lists. Definitions only.
use Rattle.std.specs.Prelude.{ℕ, List, [], ◌∷◌, ◌++◌, Bool, true, false, cond, replicate, take, Result, Ok, Err, ⊤}
use Rattle.std.specs.Float.{binary32}
use Rattle.std.specs.Float.Ieee.{of_bits, to_bits}
use Rattle.tables.specs.declared.Set.{Set}
use Rattle.tables.specs.declared.Refusal.{Refusal}
use Rattle.tables.specs.Refusal.{number, value, first_of}
use Rattle.tables.specs.Set.{blank}
use Rattle.tables.specs.SetT.{set_t}
use Rattle.words.specs.Words.{word_bytes}
use Rattle.moves.specs.Moves.{kept_of}
use Rattle.record.specs.Layout.{record_at}
use Rattle.record.specs.Readable.{readable}
use Rattle.join.specs.Join.{join_checks, join_old_of}
use Rattle.cases.specs.Case.{Case}
use Rattle.cases.specs.MapM.{old_m, bytes_m}

-- a displacement's pattern as it is kept
unfoldable pub kept_case : ℕ → ℕ → Case
kept_case pattern due = record { given = to_bits binary32 (kept_of (of_bits binary32 pattern)) ∷ []; due = due ∷ [] }

-- map M's record with the patterns of other displacements
unfoldable pub moved_m : ℕ → ℕ → List ℕ
moved_m dx dy = old_m ++ (word_bytes dx ++ word_bytes dy)

-- 1 where such a record is readable, else 0
unfoldable pub read_case : ℕ → ℕ → ℕ → Case
read_case dx dy due = record { given = cond (readable 9 10 (record_at (moved_m dx dy) 0)) 1 0 ∷ []; due = due ∷ [] }

-- a refusal's number and value; 0 where nothing is refused
unfoldable pub values_of : Result ⊤ Refusal → List ℕ
values_of (Ok _) = 0 ∷ []
values_of (Err r) = number r ∷ value r ∷ []

-- what the join's checks say of a list of 9 by 10 pixels, old or not
unfoldable pub join_case : Bool → ℕ → Set → List ℕ → ℕ → List ℕ → Case
join_case old rows s list room due = record { given = values_of (first_of (join_checks old s rows 10 list room)); due = due }

-- what the join of an old list leaves in a buffer of zeros
unfoldable pub old_case : List ℕ → ℕ → List ℕ → Case
old_case list room due = record { given = (join_old_of set_t 9 10 list (replicate room 0)).buffer; due = due }

-- the cases of request No. 8
unfoldable pub moves : List Case
moves =
    -- A zero is kept as +0, whichever it was; any other displacement as it is.
    kept_case 0x80000000 0x00000000
    ∷ kept_case 0x00000000 0x00000000
    ∷ kept_case 0x80000001 0x80000001
    ∷ kept_case 0xbf19999a 0xbf19999a
    -- A record is readable with displacements of 0.6, either way, and of -0; not with the float above 0.6, an infinity or a NaN, in x or in y.
    ∷ read_case 0x3f19999a 0xbf19999a 1
    ∷ read_case 0x80000000 0x80000000 1
    ∷ read_case 0x3f19999b 0x00000000 0
    ∷ read_case 0x00000000 0xbf19999b 0
    ∷ read_case 0x7f800000 0x00000000 0
    ∷ read_case 0x00000000 0x7fc00000 0
    -- Map M's 48 bytes are joined where there is room for 60; its old 40 are no whole record, and refused with 5 and the index 0, as 47 are.
    ∷ join_case false 9 set_t bytes_m 60 (0 ∷ [])
    ∷ join_case false 9 set_t bytes_m 59 (6 ∷ 0 ∷ [])
    ∷ join_case false 9 set_t old_m 60 (5 ∷ 0 ∷ [])
    ∷ join_case false 9 set_t (take 47 bytes_m) 60 (5 ∷ 0 ∷ [])
    -- As an old list its 40 bytes are joined where there is room for 52; the 48 are one whole record and 8 bytes.
    ∷ join_case true 9 set_t old_m 52 (0 ∷ [])
    ∷ join_case true 9 set_t old_m 51 (6 ∷ 0 ∷ [])
    ∷ join_case true 9 set_t bytes_m 52 (5 ∷ 1 ∷ [])
    -- 1 comes before 4, 4 before 5, 5 before 6, of an old list too.
    ∷ join_case true 4097 blank bytes_m 51 (1 ∷ 0 ∷ [])
    ∷ join_case true 9 blank bytes_m 51 (4 ∷ 0 ∷ [])
    ∷ join_case true 4 set_t old_m 51 (5 ∷ 0 ∷ [])
    -- Its old record, sized: the 40 bytes, sigma 2.828427, home row 4 and col 5, accepted; a byte past them is kept.
    ∷ old_case old_m 53 (old_m ++ (0xf3 ∷ 0x04 ∷ 0x35 ∷ 0x40 ∷ 0x04 ∷ 0x00 ∷ 0x05 ∷ 0x00 ∷ 0x01 ∷ 0x00 ∷ 0x00 ∷ 0x00 ∷ 0x00 ∷ []))
    ∷ []
