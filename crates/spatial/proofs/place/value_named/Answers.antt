-- `place::value_named` meets its contract.
use mathlib.Core.Path.{sym}
use native.Mathlib.Omega.{arith}
use lib.ListN.{length, get_or-eq_default}
use Prim.Native.Nat.{◌≤◌}
use lib.Ieee.{nan, div, of_bits}
use Rattle.spatial.proofs.place.value_named.Goals as goal

pub returns-then-i-v : goal.returns-then-i-v
returns-then-i-v c = rw c.from-i.ensures

pub returns-else-i-v : goal.returns-else-i-v
unfolding div of_bits
returns-else-i-v c =
    let past : length c.args.v.now ≤ c.args.name = omega (arith, c.from-i.ensures) in
    sym (get_or-eq_default c.args.v.now nan past)
