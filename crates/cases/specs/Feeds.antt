-- Cases of the feed: map M given by columns, and what is refused. Definitions only.
use Rattle.std.specs.Prelude.{ℕ, zero, suc, ◌*◌, List, [], ◌∷◌, ◌++◌, replicate, take, drop, Float, Result, Ok, Err}
use Rattle.float.specs.Num.{f0}
use Rattle.tables.specs.declared.Set.{Set}
use Rattle.tables.specs.declared.Refusal.{Refusal}
use Rattle.tables.specs.declared.Thresholds.{Thresholds}
use Rattle.tables.specs.Refusal.{number}
use Rattle.tables.specs.SetT.{set_t}
use Rattle.samples.specs.Four.{Four, four_of}
use Rattle.ring.specs.declared.State.{State}
use Rattle.feed.specs.Feed.{start_of, said, opened, column_of}
use Rattle.fed.specs.Run.{Call, bytes_after, state_after}
use Rattle.cases.specs.Case.{Case}
use Rattle.cases.specs.MapM.{zeros, put, level_m, thresholds_m, of_checked}

-- what start's checks say of a map of these sides in this octave, with these thresholds and this set, and with a ring of which each slice has n floats
unfoldable pub start_case : ℕ → ℕ → ℕ → Thresholds → Set → ℕ → List ℕ → Case
start_case rows cols octave th s n due = record { given = of_checked (said (start_of s th rows cols octave n n n n)); due = due }

-- column c of a level of 9 rows
unfoldable pub column_m : List Float → ℕ → List Float
column_m l c = take 9 (drop (c * 9) l)

-- column c of map M's four levels
unfoldable pub columns_m : ℕ → Four
columns_m c = four_of (column_m level_m c) (column_m (put 4 4 0xbe800000 zeros) c) (column_m zeros c) (column_m zeros c)

-- the first n of its columns, each with an output of so many bytes
unfoldable pub calls_m : ℕ → ℕ → List Call
calls_m room zero = []
calls_m room (suc n) = calls_m room n ++ (record { columns = columns_m n; out = replicate room 0x5a } ∷ [])

-- a ring of four slices of n floats
unfoldable pub ring_of : ℕ → Four
ring_of n = four_of (replicate n f0) (replicate n f0) (replicate n f0) (replicate n f0)

-- the state before map M's first column
unfoldable pub state_m : State
state_m = opened set_t thresholds_m 9 10 0

-- what map M's first n columns hand over, and how many of them are taken, with so much room in each output
unfoldable pub fed_case : ℕ → ℕ → List ℕ → Case
fed_case room n due = record { given = bytes_after state_m (ring_of 45) (calls_m room n) ++ ((state_after state_m (ring_of 45) (calls_m room n)).position ∷ []); due = due }

-- a count, or a refusal's number behind a 0
unfoldable pub of_answer : Result ℕ Refusal → List ℕ
of_answer (Ok n) = n ∷ []
of_answer (Err r) = 0 ∷ number r ∷ []

-- what a column is answered that is so many floats long, of a map of 9 rows by cols at this position, with a ring of which each slice has n floats, and no output
unfoldable pub column_case : ℕ → ℕ → ℕ → ℕ → List ℕ → Case
column_case cols position long n due = record {
  given =
      of_answer (column_of (record { set = set_t; thresholds = thresholds_m; rows = 9; cols = cols; octave = 0; position = position })
      (ring_of long) (ring_of n) []).answer;
  due = due;
}
