-- `room_off` meets its contract.
use Prim.Native.Nat.{◌*◌, ◌≤◌}
use native.Mathlib.Omega.{arith}
use Rattle.scene_checks.proofs.ChecksLaws.{first-most}
use Rattle.scene_checks.proofs.room_off.Goals as goal

pub overflow_mul-need : goal.overflow_mul-need
overflow_mul-need c =
    let a = c.args in
    let f : c.length_of.result * c.length_of-2.result ≤ 16777216 = rw (c.length_of.ensures, c.length_of-2.ensures) (first-most a.rows a.cols) in
    omega (arith, f)

pub returns : goal.returns
returns c = rw (c.length_of.ensures, c.length_of-2.ensures)
