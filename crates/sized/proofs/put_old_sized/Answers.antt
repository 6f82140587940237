-- `put_old_sized` meets its contract.
use native.Mathlib.Omega.{arith}
use Rattle.sized.proofs.SizedLaws.{old_sized_parts}
use Rattle.sized.proofs.put_old_sized.Goals as goal

pub put_tail-requires : goal.put_tail-requires
put_tail-requires c = record { at_in_bounds = omega arith; row_bound = rw c.home_of-home.ensures (let p = c.requires.placed in (p.row, p.col)) }

pub returns : goal.returns
returns c =
    let a = c.args in
    old_sized_parts _ a.at a.set a.r c.size_of-size.ensures c.home_of-home.ensures c.put_old.ensures c.put_tail.ensures
