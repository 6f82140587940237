-- What the feed's two calls answer and leave, as one value of what they are given. Definitions only.
use Rattle.std.specs.Prelude.{ℕ, ◌+◌, ◌*◌, Bool, ◌||◌, List, [], ◌∷◌, length, ltb, leb, Result, Ok, Err, ⊤}
use Rattle.tables.specs.declared.Set.{Set}
use Rattle.tables.specs.declared.Thresholds.{Thresholds}
use Rattle.tables.specs.declared.Refusal.{Refusal}
use Rattle.tables.specs.declared.Refusal.TheVariants.{Room, Past}
use Rattle.tables.specs.Refusal.{Check, ◌when◌, first_of, most_side, sides_check, octave_check, thresholds_check, set_check}
use Rattle.checks.specs.Checks.{levels_check}
use Rattle.record.specs.declared.Record.{Record}
use Rattle.record.specs.Layout.{spot_width, laid}
use Rattle.ring.specs.declared.State.{State}
use Rattle.samples.specs.Four.{Four}
use Rattle.ring.specs.Ring.{judged_spots, stored}
use Rattle.feed.specs.declared.Unstarted.{Unstarted}

-- ---- start

-- 6: a slice of the ring, of n0 to n3 floats, is shorter than five columns
abbrev pub ring_check : ℕ → ℕ → ℕ → ℕ → ℕ → Check
ring_check rows n0 n1 n2 n3 = Room when (ltb n0 (5 * rows) || (ltb n1 (5 * rows) || (ltb n2 (5 * rows) || ltb n3 (5 * rows))))

-- start's checks: the first that holds is answered
unfoldable pub start_checks : Set → Thresholds → ℕ → ℕ → ℕ → ℕ → ℕ → ℕ → ℕ → List Check
start_checks set th rows cols octave n0 n1 n2 n3 =
    sides_check rows cols ∷ octave_check octave ∷ thresholds_check th ∷ set_check set ∷ ring_check rows n0 n1 n2 n3 ∷ []

-- the state before the first column
abbrev pub opened : Set → Thresholds → ℕ → ℕ → ℕ → State
opened set th rows cols octave = record { set = set; thresholds = th; rows = rows; cols = cols; octave = octave; position = 0 }

-- the state that takes no column stands beside a refusal
abbrev pub not_started : Set → Thresholds → Refusal → Unstarted
not_started set th r = record { why = r; state = opened set th 0 0 0 }

-- a refusal opens no feed; otherwise the state before the first column is answered
unfoldable pub started_by : Result ⊤ Refusal → Set → Thresholds → ℕ → ℕ → ℕ → Result State Unstarted
started_by (Err r) set th rows cols octave = Err (not_started set th r)
started_by (Ok _) set th rows cols octave = Ok (opened set th rows cols octave)

-- the whole of start
unfoldable pub start_of : Set → Thresholds → ℕ → ℕ → ℕ → ℕ → ℕ → ℕ → ℕ → Result State Unstarted
start_of set th rows cols octave n0 n1 n2 n3 = started_by (first_of (start_checks set th rows cols octave n0 n1 n2 n3)) set th rows cols octave

-- what an answer of start says of its checks: the refusal, or that none holds
abbrev pub said : Result State Unstarted → Result ⊤ Refusal
said (Err w) = Err w.why
said (Ok _) = Ok tt

-- ---- a column

-- all columns have come. A state that start did not make, with rows or cols above the longest side, has none to come.
unfoldable pub past : State → Bool
past s = ltb most_side s.rows || (ltb most_side s.cols || leb s.cols s.position)

-- the records rs do not all fit
unfoldable pub cramped : List Record → List ℕ → Bool
cramped rs out = ltb (length out) (length rs * spot_width)

-- a column's checks: the first that holds is answered
unfoldable pub column_checks : State → Four → Four → List ℕ → List Check
column_checks s given ring out =
    (Past when past s) ∷ levels_check (length given.l0) (length given.l1) (length given.l2) (length given.l3) s.rows
    ∷ ring_check s.rows (length ring.l0) (length ring.l1) (length ring.l2) (length ring.l3)
    ∷ (Room when cramped (judged_spots s ring given) out) ∷ []

-- an answer, the state for the next call, the ring and the whole output after it
pub record After : Type 0 where
  pub answer : Result ℕ Refusal
  pub state : State
  pub ring : Four
  pub out : List ℕ

-- these, given one by one
abbrev pub after : Result ℕ Refusal → State → Four → List ℕ → After
after a s ring out = record { answer = a; state = s; ring = ring; out = out }

-- a refusal leaves all as it was
abbrev pub refused : Refusal → State → Four → List ℕ → After
refused w s ring out = record { answer = Err w; state = s; ring = ring; out = out }

-- the state after one column more
abbrev pub next : State → State
next s = record { set = s.set; thresholds = s.thresholds; rows = s.rows; cols = s.cols; octave = s.octave; position = s.position + 1 }

-- the records are written, all other bytes kept; the columns are stored
abbrev pub took : List Record → State → Four → Four → List ℕ → After
took rs s given ring out = record { answer = Ok (length rs); state = next s; ring = stored s ring given; out = laid rs out }

-- a column is refused, or taken
unfoldable pub fed_by : Result ⊤ Refusal → State → Four → Four → List ℕ → After
fed_by (Err r) s given ring out = refused r s ring out
fed_by (Ok _) s given ring out = took (judged_spots s ring given) s given ring out

-- the whole of a column
unfoldable pub column_of : State → Four → Four → List ℕ → After
column_of s given ring out = fed_by (first_of (column_checks s given ring out)) s given ring out

-- what is left of it when but the last check has passed: only inner functions cite this
abbrev pub output_of : State → Four → Four → List ℕ → After
output_of s given ring out = fed_by (first_of ((Room when cramped (judged_spots s ring given) out) ∷ [])) s given ring out
