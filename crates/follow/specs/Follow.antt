-- A given list followed beside the records that are due, and what is found. Definitions only.
use Rattle.std.specs.Prelude.{ℕ, suc, ◌*◌, ◌/◌, ◌<◌, ◌≡◌, ◌⊎◌, Bool, true, false, cond, ◌&&◌, ◌||◌, List, [], ◌∷◌, length, take, drop, ltb, eqb}
use Rattle.alike.specs.Same.{same}
use Rattle.record.specs.declared.Record.{Record}
use Rattle.record.specs.Layout.{spot_width, record_bytes, record_at}
use Rattle.follow.specs.declared.Finding.{Finding}
use Rattle.follow.specs.declared.Finding.TheVariants.{Yes, Extra, Absent, Different}
use Rattle.std.specs.declared.ops.ControlFlow.{ControlFlow}
use Rattle.std.specs.declared.ops.ControlFlow.TheVariants.{Continue, Break}

-- ---- the list's records

-- how many there are
abbrev pub count_of : List ℕ → ℕ
count_of b = length b / spot_width

-- the bytes of the i-th
abbrev pub own_bytes : List ℕ → ℕ → List ℕ
own_bytes b i = take spot_width (drop (i * spot_width) b)

-- ---- a due record beside the given one

-- r comes before t: its key is smaller, or at the same key its polarity
unfoldable pub earlier : Record → Record → Bool
earlier r t = ltb r.key t.key || (eqb r.key t.key && ltb r.polarity t.polarity)

-- the same in words
abbrev pub Earlier : Record → Record → Type 0
Earlier r t = (r.key < t.key) ⊎ ((r.key ≡ t.key) × (r.polarity < t.polarity))

-- the record d is due where the i-th of the list stands. Order decides first: one before it is extra, one after it leaves it absent; in its place any other byte
-- makes it different; a list that ends there leaves it absent
unfoldable pub meet_of : List ℕ → ℕ → Record → ControlFlow Finding ℕ
meet_of b i d =
    cond (ltb i (count_of b))
    (cond (earlier (record_at b i) d) (Break (Extra i))
    (cond (earlier d (record_at b i)) (Break (Absent i))
    (cond (same (record_bytes d) (own_bytes b i)) (Continue (suc i)) (Break (Different i)))))
    (Break (Absent i))

-- one due record more; past the first difference none is looked at
unfoldable pub step_of : List ℕ → ControlFlow Finding ℕ → Record → ControlFlow Finding ℕ
step_of b (Continue i) d = meet_of b i d
step_of b (Break a) d = Break a

-- several
unfoldable pub walk_of : List ℕ → ControlFlow Finding ℕ → List Record → ControlFlow Finding ℕ
walk_of b w [] = w
walk_of b w (d ∷ ds) = walk_of b (step_of b w d) ds

-- no difference yet
unfoldable pub is_going : ControlFlow Finding ℕ → Bool
is_going (Continue i) = true
is_going (Break a) = false

-- after the last due record anything that is left is extra
unfoldable pub end_of : List ℕ → ControlFlow Finding ℕ → Finding
end_of b (Continue i) = cond (ltb i (count_of b)) (Extra i) Yes
end_of b (Break a) = a

-- ---- the whole list

-- what is found of the list b where the records ds are due
unfoldable pub finding_of : List Record → List ℕ → Finding
finding_of ds b = end_of b (walk_of b (Continue 0) ds)
