-- The ring of five columns, and what the column before the last two lists from it. Definitions only.
use Rattle.std.specs.Prelude.{ℕ, zero, suc, ◌+◌, ◌-◌, ◌*◌, ◌%◌, Bool, cond, ◌&&◌, List, [], ◌∷◌, ◌++◌, get_or, eqb, leb, ltb, Float}
use Rattle.std.proofs.lemmas.List.Edits.{sets}
use Rattle.std.specs.Float.{nan}
use Rattle.record.specs.declared.Record.{Record}
use Rattle.pixel.specs.declared.Frame.{Frame}
use Rattle.pixel.specs.Listed.{both_listed}
use Rattle.samples.specs.Level.{stencil_of, nine_of}
use Rattle.samples.specs.Four.{Four}
use Rattle.ring.specs.declared.State.{State}

-- the frame of a state's map
abbrev pub frame_of : State → Frame
frame_of s = record { rows = s.rows; cols = s.cols; octave = s.octave }

-- column c lies in the ring from here on
abbrev pub slot_of : ℕ → ℕ → ℕ
slot_of rows c = c % 5 * rows

-- a level's pixel (row, col) while column n is given: of that column, or of the ring
unfoldable pub pixel_fed : List Float → List Float → ℕ → ℕ → ℕ → ℕ → Float
pixel_fed ring given rows n row col = cond (eqb col n) (get_or given row nan) (get_or ring (slot_of rows col + row) nan)

-- its sample there
unfoldable pub sample_fed : List Float → List Float → ℕ → ℕ → ℕ → ℕ → Float → Float
sample_fed ring given rows n row col sigma =
    stencil_of (pixel_fed ring given rows n row (col - 1)) (pixel_fed ring given rows n row (col + 1)) (pixel_fed ring given rows n (row - 1) col)
    (pixel_fed ring given rows n (row + 1) col) (pixel_fed ring given rows n row col) sigma

-- the four levels' samples there
unfoldable pub samples_fed : Four → Four → ℕ → ℕ → List Float → ℕ → ℕ → List Float
samples_fed ring given rows n sigmas row col =
    sample_fed ring.l0 given.l0 rows n row col (get_or sigmas 0 nan) ∷ sample_fed ring.l1 given.l1 rows n row col (get_or sigmas 1 nan)
    ∷ sample_fed ring.l2 given.l2 rows n row col (get_or sigmas 2 nan) ∷ sample_fed ring.l3 given.l3 rows n row col (get_or sigmas 3 nan) ∷ []

-- the samples at the nine places around it
abbrev pub nine_fed : State → Four → Four → ℕ → ℕ → List (List Float)
nine_fed s ring given = nine_of (samples_fed ring given s.rows s.position s.set.sigmas)

-- what a pixel lists: the minimum before the maximum, by the judgement that detection uses
unfoldable pub pixel_spots : State → Four → Four → ℕ → ℕ → List Record
pixel_spots s ring given row col = both_listed s.set s.thresholds (frame_of s) (nine_fed s ring given row col) row col

-- what the first n judged pixels of a column list: those at the rows 4 to n + 3
unfoldable pub column_spots : State → Four → Four → ℕ → ℕ → List Record
column_spots s ring given col zero = []
column_spots s ring given col (suc n) = column_spots s ring given col n ++ pixel_spots s ring given (n + 4) col

-- a column is judged when the given one is two further: only cols 4 to cols-5 are
unfoldable pub judges : State → Bool
judges s = leb 6 s.position && ltb (s.position + 2) s.cols

-- what it lists
unfoldable pub judged_spots : State → Four → Four → List Record
judged_spots s ring given = cond (judges s) (column_spots s ring given (s.position - 2) (s.rows - 8)) []

-- one slice of the ring with the column c stored as the n-th
abbrev pub kept : ℕ → ℕ → List Float → List Float → List Float
kept rows n ring c = sets ring (slot_of rows n) c

-- the ring with the given columns stored
abbrev pub stored : State → Four → Four → Four
stored s ring given = record {
  l0 = kept s.rows s.position ring.l0 given.l0;
  l1 = kept s.rows s.position ring.l1 given.l1;
  l2 = kept s.rows s.position ring.l2 given.l2;
  l3 = kept s.rows s.position ring.l3 given.l3;
}
