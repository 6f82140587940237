-- A feed's state as bytes, and what the two calls over bytes answer and leave. Definitions only.
use Rattle.std.specs.Prelude.{ℕ, ◌+◌, cond, List, [], ◌∷◌, ◌++◌, ltb, length, get_or, Result, Ok, Err, ⊤}
use Rattle.std.proofs.lemmas.List.Edits.{sets}
use Rattle.words.specs.Words.{word_bytes, float_bytes, word_from, float_from}
use Rattle.tables.specs.declared.Thresholds.{Thresholds}
use Rattle.tables.specs.declared.Refusal.{Refusal}
use Rattle.tables.specs.declared.Refusal.TheVariants.{Room, Past}
use Rattle.tables.specs.Set.{set_of}
use Rattle.tables.specs.Refusal.{Check, ◌when◌, first_of, number, value, read_or_blank}
use Rattle.samples.specs.Four.{Four}
use Rattle.ring.specs.declared.State.{State}
use Rattle.feed.specs.Feed.{start_checks, column_of}

-- how many bytes a state has
abbrev pub state_width : ℕ
state_width = 564

-- the state that bytes hold: the set record; the five thresholds; rows, cols and position as words; the octave. Any bytes make one.
unfoldable pub state_of : List ℕ → State
state_of b = record {
  set = set_of b;
  thresholds = record { peak = float_from b 528; sigma = float_from b 532; ratio = float_from b 536; low = float_from b 540; high = float_from b 544 };
  rows = word_from b 548;
  cols = word_from b 552;
  octave = get_or b 560 0;
  position = word_from b 556;
}

-- the thresholds' bytes
unfoldable pub thresholds_bytes : Thresholds → List ℕ
thresholds_bytes th = float_bytes th.peak ++ (float_bytes th.sigma ++ (float_bytes th.ratio ++ (float_bytes th.low ++ float_bytes th.high)))

-- those of rows, cols, a position of 0 and the octave
unfoldable pub numbers_bytes : ℕ → ℕ → ℕ → List ℕ
numbers_bytes rows cols octave = word_bytes rows ++ (word_bytes cols ++ (word_bytes 0 ++ (octave ∷ 0 ∷ 0 ∷ 0 ∷ [])))

-- the bytes of the state before the first column; set are those of the set record
unfoldable pub opened_bytes : List ℕ → Thresholds → ℕ → ℕ → ℕ → List ℕ
opened_bytes set th rows cols octave = set ++ (thresholds_bytes th ++ numbers_bytes rows cols octave)

-- ---- start

-- 6: the buffer for the state is too short
abbrev pub state_check : ℕ → Check
state_check n = Room when ltb n state_width

-- start's checks over bytes: start's own under the set that the record holds, then the buffer's
unfoldable pub bytes_checks : List ℕ → Thresholds → ℕ → ℕ → ℕ → ℕ → ℕ → ℕ → ℕ → ℕ → List Check
bytes_checks set th rows cols octave n0 n1 n2 n3 n = start_checks (read_or_blank set) th rows cols octave n0 n1 n2 n3 ++ (state_check n ∷ [])

-- a number, and the whole buffer of the state
pub record StartLeft : Type 0 where
  pub number : ℕ
  pub state : List ℕ

-- these two, given one by one
abbrev pub start_left : ℕ → List ℕ → StartLeft
start_left n b = record { number = n; state = b }

-- a refusal writes nothing; otherwise the state is written at the buffer's start
unfoldable pub start_left_by : Result ⊤ Refusal → List ℕ → Thresholds → ℕ → ℕ → ℕ → List ℕ → StartLeft
start_left_by (Err r) set th rows cols octave state = start_left (number r) state
start_left_by (Ok _) set th rows cols octave state = start_left 0 (sets state 0 (opened_bytes set th rows cols octave))

-- the whole of start over bytes
unfoldable pub start_bytes : List ℕ → Thresholds → ℕ → ℕ → ℕ → ℕ → ℕ → ℕ → ℕ → List ℕ → StartLeft
start_bytes set th rows cols octave n0 n1 n2 n3 state =
    start_left_by (first_of (bytes_checks set th rows cols octave n0 n1 n2 n3 (length state))) set th rows cols octave state

-- ---- a column

-- a number, a value, the whole buffer of the state, the ring and the whole output
pub record ColumnLeft : Type 0 where
  pub number : ℕ
  pub value : ℕ
  pub state : List ℕ
  pub ring : Four
  pub out : List ℕ

-- these five, given one by one
abbrev pub column_left : ℕ → ℕ → List ℕ → Four → List ℕ → ColumnLeft
column_left n v b ring out = record { number = n; value = v; state = b; ring = ring; out = out }

-- a refusal changes nothing; a taken column moves the position by one, and all other bytes of the state are kept
unfoldable pub column_left_by : Result ℕ Refusal → List ℕ → Four → List ℕ → ColumnLeft
column_left_by (Ok n) b ring out = column_left 0 n (sets b 556 (word_bytes (word_from b 556 + 1))) ring out
column_left_by (Err r) b ring out = column_left (number r) (value r) b ring out

-- the whole of a column over bytes: too few of them hold no feed, and are past
unfoldable pub column_bytes : List ℕ → Four → Four → List ℕ → ColumnLeft
column_bytes b given ring out =
    let a = column_of (state_of b) given ring out in
    cond (ltb (length b) state_width) (column_left_by (Err Past) b ring out) (column_left_by a.answer b a.ring a.out)
