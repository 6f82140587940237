-- What the join's face answers, and what it leaves in the buffer, as one value of its input. Definitions only.
use Rattle.std.specs.Prelude.{ℕ, List, Result}
use Rattle.tables.specs.Refusal.{read_or_blank}
use Rattle.tables.specs.declared.Refusal.{Refusal}
use Rattle.join.specs.Join as join
use Rattle.face.specs.Face.{Packed, Left, left, answer_packed}

-- 0 and the count, or the refusal's number and the value that goes with it
abbrev pub join_packed : Result ℕ Refusal → Packed
join_packed = answer_packed

-- what an outcome of the join leaves
abbrev pub join_left : join.Outcome → Left
join_left o = left (join_packed o.answer).number (join_packed o.answer).value o.buffer

-- the join under the set that the record holds
unfoldable pub join_face : List ℕ → ℕ → ℕ → List ℕ → List ℕ → Left
join_face set rows cols list out = join_left (join.join_of (read_or_blank set) rows cols list out)

-- the join of an old list under it
unfoldable pub join_old_face : List ℕ → ℕ → ℕ → List ℕ → List ℕ → Left
join_old_face set rows cols list out = join_left (join.join_old_of (read_or_blank set) rows cols list out)
