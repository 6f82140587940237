-- Cases of the reader of a partner's list, on map M, whose one record is bytes_m. Definitions only.
use Rattle.std.specs.Prelude.{ℕ, List, [], ◌∷◌, ◌++◌, set, take, Float}
use Rattle.tables.specs.SetT.{set_t}
use Rattle.partner.specs.Partner.{partner_of}
use Rattle.face_partner.specs.declared.Told.{Told}
use Rattle.face_partner.specs.Face.{reply_told}
use Rattle.cases.specs.Case.{Case}
use Rattle.cases.specs.MapM.{zeros, put, level_m, thresholds_m, bytes_m, minimum_m}

-- a call's number, its finding's number and its value
unfoldable pub told_list : Told → List ℕ
told_list t = t.number ∷ t.finding ∷ t.value ∷ []

-- what is answered of a list on map M, with this level 0, in this octave
unfoldable pub on_map : List Float → ℕ → List ℕ → List ℕ → Case
on_map l0 octave b due = record {
  given = told_list (reply_told (partner_of set_t thresholds_m 9 10 octave l0 (put 4 4 0xbe800000 zeros) zeros zeros b));
  due = due;
}

-- on map M itself
unfoldable pub on_m : List ℕ → List ℕ → Case
on_m b due = on_map level_m 0 b due

-- ---- the cases of request No. 11

-- what is found: its number, and the index of the first record that differs
unfoldable pub findings : List Case
findings =
    -- The due list is accepted, and no other.
    on_m bytes_m (0 ∷ 1 ∷ 0 ∷ [])
    -- A list that ends early is absent at its own count; anything past the last due record is extra.
    ∷ on_m [] (0 ∷ 3 ∷ 0 ∷ [])
    ∷ on_m (bytes_m ++ bytes_m) (0 ∷ 2 ∷ 1 ∷ [])
    -- At M's key a minimum comes before the maximum: extra. A smaller key too; a larger one leaves the due record absent.
    ∷ on_m minimum_m (0 ∷ 2 ∷ 0 ∷ [])
    ∷ on_m (set bytes_m 32 0x2b) (0 ∷ 2 ∷ 0 ∷ [])
    ∷ on_m (set bytes_m 32 0x2d) (0 ∷ 3 ∷ 0 ∷ [])
    -- Order decides first: a smaller key with other bytes changed is extra, a minimum at a larger key absent.
    ∷ on_m (set (set bytes_m 32 0x2b) 12 1) (0 ∷ 2 ∷ 0 ∷ [])
    ∷ on_m (set minimum_m 32 0x2d) (0 ∷ 3 ∷ 0 ∷ [])
    -- With the same key and polarity any other byte makes it different: x, the octave, the sign of a delta of 0.
    ∷ on_m (set bytes_m 0 1) (0 ∷ 4 ∷ 0 ∷ [])
    ∷ on_m (set bytes_m 36 5) (0 ∷ 4 ∷ 0 ∷ [])
    ∷ on_m (set bytes_m 47 0x80) (0 ∷ 4 ∷ 0 ∷ [])
    -- Only the first difference is told.
    ∷ on_m (minimum_m ++ bytes_m) (0 ∷ 2 ∷ 0 ∷ [])
    ∷ on_m (bytes_m ++ (minimum_m ++ minimum_m)) (0 ∷ 2 ∷ 1 ∷ [])
    -- On a map without a spot the empty list is accepted, and any record is extra.
    ∷ on_map zeros 0 [] (0 ∷ 1 ∷ 0 ∷ [])
    ∷ on_map zeros 0 bytes_m (0 ∷ 2 ∷ 0 ∷ [])
    ∷ []

-- what is refused, and what stands before it in the order; a refused call has the finding 0
unfoldable pub refusals : List Case
refusals =
    -- A length that isn't whole records: the whole record count, of a list that differs or not.
    on_m (bytes_m ++ (0 ∷ [])) (5 ∷ 0 ∷ 1 ∷ [])
    ∷ on_m (take 47 bytes_m) (5 ∷ 0 ∷ 0 ∷ [])
    -- A bad record: its index, at the first difference, and far behind it.
    ∷ on_m (set bytes_m 39 1) (5 ∷ 0 ∷ 0 ∷ [])
    ∷ on_m (minimum_m ++ (bytes_m ++ set bytes_m 37 3)) (5 ∷ 0 ∷ 2 ∷ [])
    ∷ on_m (set bytes_m 38 2) (5 ∷ 0 ∷ 0 ∷ [])
    -- Detection's refusals stand before: an octave above 5, a level of another length.
    ∷ on_map level_m 6 (set bytes_m 39 1) (3 ∷ 0 ∷ 0 ∷ [])
    ∷ on_map (take 89 zeros) 6 (bytes_m ++ (0 ∷ [])) (2 ∷ 0 ∷ 0 ∷ [])
    ∷ []
