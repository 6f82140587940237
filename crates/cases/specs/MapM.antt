-- Document 01's map M, cases of the list that is due for it, and of its refusal. Definitions only.
use Rattle.std.specs.Prelude.{ℕ, ◌+◌, ◌*◌, List, [], ◌∷◌, ◌++◌, replicate, set, Float, Result, Ok, Err}
use Rattle.std.specs.Float.{binary32}
use Rattle.std.specs.Float.Ieee.{of_bits}
use Rattle.float.specs.Num.{f0}
use Rattle.tables.specs.declared.Set.{Set}
use Rattle.tables.specs.declared.Refusal.{Refusal}
use Rattle.tables.specs.declared.Thresholds.{Thresholds}
use Rattle.tables.specs.Refusal.{number, first_of}
use Rattle.tables.specs.SetT.{set_t}
use Rattle.checks.specs.Checks.{detect_checks}
use Rattle.record.specs.Layout.{record_at, bytes_of}
use Rattle.samples.specs.Level.{Maps, maps_of}
use Rattle.detect.specs.Due as dues
use Rattle.sized.specs.Sized.{sized_bytes}
use Rattle.cases.specs.Case.{Case}

-- a level of 9 rows and 10 cols, all 0
unfoldable pub zeros : List Float
zeros = replicate 90 f0

-- a level of 9 rows with the value of a bit pattern put at (row, col)
unfoldable pub put : ℕ → ℕ → ℕ → List Float → List Float
put row col pattern l = set l (col * 9 + row) (of_bits binary32 pattern)

-- map M's level 0: all 0 but (4,4): 0.25
unfoldable pub level_m : List Float
level_m = put 4 4 0x3e800000 zeros

-- thresholds by their bit patterns: peak, sigma, ratio, and the window's two ends
unfoldable pub thresholds_of : ℕ → ℕ → ℕ → ℕ → ℕ → Thresholds
thresholds_of peak sigma ratio low high = record {
  peak = of_bits binary32 peak;
  sigma = of_bits binary32 sigma;
  ratio = of_bits binary32 ratio;
  low = of_bits binary32 low;
  high = of_bits binary32 high;
}

-- map M's: 1, 1, 10, window 1.9027314 to 4.1498866
unfoldable pub thresholds_m : Thresholds
thresholds_m = thresholds_of 0x3f800000 0x3f800000 0x41200000 0x3ff38cb4 0x4084cbdf

-- map M with this level 0: -0.25 at (4,4) of level 1; octave 0, set T, map M's thresholds
unfoldable pub map_m : List Float → Maps
map_m l0 =
    maps_of l0 (put 4 4 0xbe800000 zeros) zeros zeros (record { rows = 9; cols = 10; octave = 0 }) set_t thresholds_m

-- the 40 bytes that map M's one spot had before displacements were kept
unfoldable pub old_m : List ℕ
old_m =
    0x00 ∷ 0x00 ∷ 0x90 ∷ 0x40 ∷ 0x00 ∷ 0x00 ∷ 0x80 ∷ 0x40 ∷ 0x00 ∷ 0x00 ∷ 0x00 ∷ 0x40 ∷ 0x00 ∷ 0x00 ∷ 0x80 ∷ 0x40
    ∷ 0x00 ∷ 0x00 ∷ 0x80 ∷ 0xbf ∷ 0x00 ∷ 0x00 ∷ 0x80 ∷ 0x40 ∷ 0x00 ∷ 0x00 ∷ 0x00 ∷ 0x00 ∷ 0x00 ∷ 0x00 ∷ 0x00 ∷ 0x00
    ∷ 0x2c ∷ 0x00 ∷ 0x00 ∷ 0x00 ∷ 0x00 ∷ 0x01 ∷ 0x01 ∷ 0x00 ∷ []

-- its 48 bytes: these, then delta x 0.5 and delta y 0
unfoldable pub bytes_m : List ℕ
bytes_m = old_m ++ (0x00 ∷ 0x00 ∷ 0x00 ∷ 0x3f ∷ 0x00 ∷ 0x00 ∷ 0x00 ∷ 0x00 ∷ [])

-- the same as a minimum
unfoldable pub minimum_m : List ℕ
minimum_m = set bytes_m 38 0x00

-- the same with a sigma of 0.25
unfoldable pub small_m : List ℕ
small_m = set (set bytes_m 10 0x80) 11 0x3e

-- the bytes of the list that is due for map M with this level 0
unfoldable pub map_case : List Float → List ℕ → Case
map_case l0 bytes = record { given = bytes_of (dues.due (map_m l0)); due = bytes }

-- the sized record of a spot's bytes under set T
unfoldable pub sized_case : List ℕ → List ℕ → Case
sized_case spot bytes = record { given = sized_bytes set_t (record_at spot 0); due = bytes }

-- the number of a refusal; 0 where nothing is refused
unfoldable pub of_checked : {A : Type 0} → Result A Refusal → List ℕ
of_checked (Ok _) = 0 ∷ []
of_checked (Err r) = number r ∷ []

-- what detection's checks say of map M in this octave, with these thresholds and this set
unfoldable pub checks_case : ℕ → Thresholds → Set → List ℕ → Case
checks_case octave t s due = record { given = of_checked (first_of (detect_checks 90 90 90 90 9 10 octave t s)); due = due }
