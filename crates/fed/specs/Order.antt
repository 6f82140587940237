-- A map's spots by columns, and records put in the order of their keys. Definitions only.
use Rattle.std.specs.Prelude.{ℕ, zero, suc, ◌+◌, ◌-◌, ◌%◌, ◌<◌, min, ◌≡◌, Bool, cond, ◌&&◌, ◌||◌, ◌⊎◌, List, [], ◌∷◌, ◌++◌, ltb, eqb}
use Rattle.record.specs.declared.Record.{Record}
use Rattle.samples.specs.Level.{Maps}
use Rattle.detect.specs.Due.{pixel_due}
use Rattle.demands.specs.List.{Before}

-- what the first n judged pixels of a column list: those at the rows 4 to n + 3
unfoldable pub column_due : Maps → ℕ → ℕ → List Record
column_due m col zero = []
column_due m col (suc n) = column_due m col n ++ pixel_due m (n + 4) col

-- what the first n judged columns list: cols 4 to n + 3, in each the rows 4 to rows-5
unfoldable pub columns_due : Maps → ℕ → List Record
columns_due m zero = []
columns_due m (suc n) = columns_due m n ++ column_due m (n + 4) (m.frame.rows - 8)

-- how many columns are judged when n have come
abbrev pub judged_of : ℕ → ℕ → ℕ
judged_of cols n = min (n - 6) (cols - 8)

-- the order in a feed: by columns, in each by rising row, at one pixel the minimum first
abbrev pub Sooner : ℕ → Record → Record → Type 0
Sooner cols r t = (r.key % cols < t.key % cols) ⊎ ((r.key % cols ≡ t.key % cols) × Before r t)

-- r's key is smaller, or they have one key and r's polarity is smaller
unfoldable pub earlier : Record → Record → Bool
earlier r t = ltb r.key t.key || (eqb r.key t.key && ltb r.polarity t.polarity)

-- r put into a list, before the first record that it is earlier than
unfoldable pub insert : Record → List Record → List Record
insert r [] = r ∷ []
insert r (t ∷ ts) = cond (earlier r t) (r ∷ t ∷ ts) (t ∷ insert r ts)

-- records put in order
unfoldable pub in_order : List Record → List Record
in_order [] = []
in_order (r ∷ rs) = insert r (in_order rs)
