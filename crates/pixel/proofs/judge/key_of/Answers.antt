-- `judge::key_of` meets its contract.
use Prim.Native.Nat.{ℕ, ◌*◌, ◌≤◌}
use native.Mathlib.Omega.{arith}
use native.Mathlib.Nat.{mul-le-mul}
use Rattle.pixel.proofs.judge.key_of.Goals as goal

-- a key is far below the ends of both widths
area : (row cols : ℕ) → row ≤ 4096 → cols ≤ 4096 → row * cols ≤ 16777216
area row cols = mul-le-mul

pub overflow_mul-result : goal.overflow_mul-result
overflow_mul-result c = omega (arith, area c.args.row c.args.cols (omega arith) (omega arith))

pub overflow_add-result : goal.overflow_add-result
overflow_add-result c = omega (arith, area c.args.row c.args.cols (omega arith) (omega arith))

pub overflow_cast-result : goal.overflow_cast-result
overflow_cast-result c = omega (arith, area c.args.row c.args.cols (omega arith) (omega arith))
