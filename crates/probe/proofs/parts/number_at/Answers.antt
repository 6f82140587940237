-- `parts::number_at` meets its contract.
use mathlib.Core.Path.{sym}
use Prim.Native.Nat.{◌≤◌}
use native.Mathlib.Omega.{arith}
use lib.ListN.{length, get_or-eq_default}
use lib.Ieee.{nan, div, of_bits}
use borrow.Author.Rules.{rules}
use Rattle.probe.proofs.parts.number_at.Goals as goal

pub returns-else-i-list : goal.returns-else-i-list
unfolding div of_bits
returns-else-i-list c =
    let past : length c.args.list.now ≤ c.args.i = omega arith in
    sym (get_or-eq_default c.args.list.now nan past)
