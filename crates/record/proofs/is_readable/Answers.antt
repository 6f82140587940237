-- `record::is_readable` meets its contract. Assumes nothing.
use Prim.Native.Nat.{ℕ, ◌*◌, ◌^◌, ◌≤◌, ◌<◌}
use native.Mathlib.Nat.{mul-le-mul, lt_of_le_of_lt}
use lib.Dec.{lit<}
use Rattle.record.specs.Readable.{readable}
use Rattle.record.proofs.is_readable.Goals as goal

area_fits : (a b : ℕ) → a ≤ 4096 → b ≤ 4096 → a * b < 2 ^ 64
area_fits a b ha hb = lt_of_le_of_lt (mul-le-mul ha hb) (lit< tt)

pub overflow_mul-result : goal.overflow_mul-result
overflow_mul-result c = record { fits = area_fits c.args.rows c.args.cols c.requires.rows_bound c.requires.cols_bound }

pub returns : goal.returns
unfolding readable
returns c =
    rw (← c.is_finite_record.ensures, ← c.is_on_side.ensures, ← c.is_on_side-2.ensures, ← c.is_nearby.ensures, ← c.is_nearby-2.ensures)
