-- The join as it was before displacements were kept, for one theorem. Definitions only.
use Rattle.std.specs.Prelude.{ℕ, zero, suc, ◌+◌, ◌*◌, ◌/◌, ◌%◌, Bool, cond, not, ◌&&◌, ◌||◌, List, [], ◌∷◌, ◌++◌, length, drop, get_or, leb, ltb, eqb, Float, Result, Ok, Err, ⊤}
use Rattle.float.specs.Small.{finite}
use Rattle.words.specs.Words.{word_bytes, float_bytes, word_from, float_from}
use Rattle.whole.specs.Nearest.{nearest_of}
use Rattle.tables.specs.declared.Set.{Set}
use Rattle.tables.specs.declared.Refusal.{Refusal}
use Rattle.tables.specs.declared.Refusal.TheVariants.{Records, Room}
use Rattle.tables.specs.Refusal.{Check, ◌when◌, first_of, sides_check, set_check}
use Rattle.record.specs.Readable.{on_side}
use Rattle.size.specs.Correct.{corrected_of}
use Rattle.sized.specs.Sized.{tail_bytes}
use Rattle.join.specs.Join.{Outcome, outcome}

-- the float, the word, the byte that stands k bytes behind the start of the i-th record
abbrev pub float_at : List ℕ → ℕ → ℕ → Float
float_at b i k = float_from b (i * 40 + k)

abbrev pub key_at : List ℕ → ℕ → ℕ
key_at b i = word_from b (i * 40 + 32)

abbrev pub byte_at : List ℕ → ℕ → ℕ → ℕ
byte_at b i k = get_or b (i * 40 + k) 0

-- the i-th record is readable: its eight floats finite, x and y on the map, the key under rows*cols, octave to 5, index 1 or 2, polarity 0 or 1, spare 0
unfoldable pub readable_before : ℕ → ℕ → List ℕ → ℕ → Bool
readable_before rows cols b i =
    finite (float_from b (i * 40)) && finite (float_at b i 4) && finite (float_at b i 8) && finite (float_at b i 12) && finite (float_at b i 16) && finite (float_at b i 20) && finite (float_at b i 24) && finite (float_at b i 28)
    && on_side cols (float_from b (i * 40)) && on_side rows (float_at b i 4) && ltb (key_at b i) (rows * cols) && leb (byte_at b i 36) 5
    && (eqb (byte_at b i 37) 1 || eqb (byte_at b i 37) 2) && leb (byte_at b i 38) 1 && eqb (byte_at b i 39) 0

-- the index of the first of n records, from the i-th on, that is bad; i + n where none is
unfoldable pub bad_before : ℕ → ℕ → List ℕ → ℕ → ℕ → ℕ
bad_before rows cols b zero i = i
bad_before rows cols b (suc n) i = cond (readable_before rows cols b i) (bad_before rows cols b n (suc i)) i

-- 1, 4, 5 for the length, 5 for a record, 6
unfoldable pub checks_before : Set → ℕ → ℕ → List ℕ → ℕ → List Check
checks_before s rows cols b room =
    sides_check rows cols
    ∷ set_check s
    ∷ (Records (length b / 40) when not (eqb (length b % 40) 0))
    ∷ (Records (bad_before rows cols b (length b / 40) 0) when ltb (bad_before rows cols b (length b / 40) 0) (length b / 40))
    ∷ (Room when ltb room (length b / 40 * 52))
    ∷ []

-- the i-th record's 52 bytes: its fields as they were written, its size by its own samples, sigma and polarity, its home by its own y and x
unfoldable pub sized_before : Set → List ℕ → ℕ → List ℕ
sized_before s b i =
    (((float_bytes (float_from b (i * 40)) ++ (float_bytes (float_at b i 4) ++ (float_bytes (float_at b i 8) ++ float_bytes (float_at b i 12))))
    ++ ((float_bytes (float_at b i 16) ++ (float_bytes (float_at b i 20) ++ (float_bytes (float_at b i 24) ++ float_bytes (float_at b i 28))))
    ++ (word_bytes (key_at b i) ++ (byte_at b i 36 ∷ byte_at b i 37 ∷ byte_at b i 38 ∷ byte_at b i 39 ∷ []))))
    ++ tail_bytes (corrected_of s (float_at b i 16 ∷ float_at b i 20 ∷ float_at b i 24 ∷ float_at b i 28 ∷ []) (float_at b i 8) (eqb (byte_at b i 38) 1))
    (record { row = nearest_of (float_at b i 4); col = nearest_of (float_from b (i * 40)) }))

-- those of n records, from the i-th on
unfoldable pub all_before : Set → List ℕ → ℕ → ℕ → List ℕ
all_before s b zero i = []
all_before s b (suc n) i = sized_before s b i ++ all_before s b n (suc i)

-- a refusal writes nothing; otherwise the record count is answered, and the bytes past the sized records are kept
unfoldable pub joined_before : Result ⊤ Refusal → Set → List ℕ → List ℕ → Outcome
joined_before (Err r) s b out = outcome (Err r) out
joined_before (Ok _) s b out = let sized = all_before s b (length b / 40) 0 in outcome (Ok (length b / 40)) (sized ++ drop (length sized) out)

-- the whole of it
unfoldable pub join_before : Set → ℕ → ℕ → List ℕ → List ℕ → Outcome
join_before s rows cols b out = joined_before (first_of (checks_before s rows cols b (length out))) s b out
