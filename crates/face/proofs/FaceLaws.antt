-- When a set's record is refused.
use Prim.Native.Nat.{ℕ}
use mathlib.Core.Bool.{true, false}
use mathlib.Core.List.{List}
use mathlib.Core.Path.{◌≡◌}
use Rattle.tables.specs.Set.{good_record}
use Rattle.tables.specs.Refusal.{number, refused_set, read_set_of}
use Rattle.tables.proofs.SetLaws.{good-record_read, bad-record-refused}
use Rattle.face.specs.Face.{check_face}

-- the check of a record answers 0 for a good one
pub good-record_zero : (b : List ℕ) → good_record b ≡ true → check_face (read_set_of b) ≡ 0
good-record_zero b e = rw (good-record_read b e)

-- and 4 for any other
pub bad-record_four : (b : List ℕ) → good_record b ≡ false → check_face (read_set_of b) ≡ 4
unfolding refused_set number
bad-record_four b e = rw (bad-record-refused b e)
