-- The refusals and their numbers, checks in an order, and what the reader of a set answers. Definitions only.
use Rattle.std.specs.Prelude.{ℕ, zero, suc, ◌<◌, List, [], ◌∷◌, Bool, true, false, cond, not, ◌||◌, ◌≡◌, ltb, Result, Ok, Err, ⊤}
use Rattle.std.specs.Float.Ieee.{is_nan}
use Rattle.tables.specs.declared.Refusal.{Refusal}
use Rattle.tables.specs.declared.Refusal.TheVariants.{Size, Level, Octave, BadSet, Records, Room, NoSize, Thresholds, Past, Scene, NotYours, Count, NoSpot}
use Rattle.tables.specs.declared.Missing.{Missing}
use Rattle.tables.specs.declared.Missing.TheVariants.{Polarity, Range}
use Rattle.tables.specs.declared.Set.{Set}
use Rattle.tables.specs.declared.Unread.{Unread}
use Rattle.tables.specs.declared.Thresholds as limits
use Rattle.tables.specs.Set.{good, set_of, good_record, blank}

-- the number of a cause for which a size is missing: 1 for the polarity or a slope that is not finite, 2 for the range
unfoldable pub cause_of : Missing → ℕ
cause_of Polarity = 1
cause_of Range = 2

-- the number of a refusal
unfoldable pub number : Refusal → ℕ
number Size = 1
number Level = 2
number Octave = 3
number BadSet = 4
number (Records i) = 5
number Room = 6
number (NoSize why) = 7
number Thresholds = 8
number Past = 9
number Scene = 10
number NotYours = 11
number Count = 12
number NoSpot = 13

-- the value that goes with it: a bad record's index, the cause of a missing size, else 0
unfoldable pub value : Refusal → ℕ
value (Records i) = i
value (NoSize why) = cause_of why
value Size = 0
value Level = 0
value Octave = 0
value BadSet = 0
value Room = 0
value Thresholds = 0
value Past = 0
value Scene = 0
value NotYours = 0
value Count = 0
value NoSpot = 0

-- refuse r where the test holds, and look further otherwise
unfoldable pub unless : Bool → Refusal → Result ⊤ Refusal → Result ⊤ Refusal
unless true r next = Err r
unless false r next = next

-- ---- checks in an order

-- one check of an entry: what it refuses with, and whether it does
pub record Check : Type 0 where
  pub refusal : Refusal
  pub holds : Bool

infix 20 ◌when◌
-- the check that refuses with r where the test holds
abbrev pub ◌when◌ : Refusal → Bool → Check
r when b = record { refusal = r; holds = b }

-- of an entry's checks, in its order, the first that holds is answered; fine where none does
unfoldable pub first_of : List Check → Result ⊤ Refusal
first_of [] = Ok tt
first_of (c ∷ cs) = unless c.holds c.refusal (first_of cs)

-- what the check at the place k says by itself, places counted from 0: past the end, fine
unfoldable pub said_at : List Check → ℕ → Result ⊤ Refusal
said_at [] k = Ok tt
said_at (c ∷ cs) zero = unless c.holds c.refusal (Ok tt)
said_at (c ∷ cs) (suc k) = said_at cs k

-- r is refused by the check at some place, and no check at an earlier place holds
pub record First (cs : List Check) (r : Refusal) : Type 0 where
  pub place : ℕ
  pub holds : said_at cs place ≡ Err r
  pub earlier : (k : ℕ) → k < place → said_at cs k ≡ Ok tt

-- ---- the checks that entries share

-- the longest side of a map
abbrev pub most_side : ℕ
most_side = 4096

-- 1: rows or cols above the longest side
abbrev pub sides_check : ℕ → ℕ → Check
sides_check rows cols = Size when (ltb most_side rows || ltb most_side cols)

-- 3: the octave is above 5
abbrev pub octave_check : ℕ → Check
octave_check octave = Octave when ltb 5 octave

-- one of the five thresholds is a NaN, of any pattern
unfoldable pub any_nan : limits.Thresholds → Bool
any_nan t = is_nan t.peak || is_nan t.sigma || is_nan t.ratio || is_nan t.low || is_nan t.high

-- 8: a NaN among the thresholds
abbrev pub thresholds_check : limits.Thresholds → Check
thresholds_check t = Thresholds when any_nan t

-- 4: the set is not good
abbrev pub set_check : Set → Check
set_check s = BadSet when not (good s)

-- ---- the reader of a set

-- of a bad record: refusal 4, and a set of zeros beside it
abbrev pub not_read : Unread
not_read = record { why = BadSet; set = blank }

-- the answer to it
unfoldable pub refused_set : Result Set Unread
refused_set = Err not_read

-- the set of a good record; otherwise the refusal
unfoldable pub read_set_of : List ℕ → Result Set Unread
read_set_of b = cond (good_record b) (Ok (set_of b)) refused_set

-- the set that is read; of a refused record, the set of zeros
unfoldable pub read_or_blank : List ℕ → Set
read_or_blank b = cond (good_record b) (set_of b) blank
