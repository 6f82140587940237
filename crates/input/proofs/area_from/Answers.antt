-- `area_from` meets its contract.
use native.Mathlib.Omega.{arith}
use Prim.Native.Nat.{◌≤◌}
use mathlib.Core.Path.{refl}
use Rattle.input.proofs.InputLaws.{checks_tile, area_sixty}
use Rattle.input.proofs.area_from.Goals as goal

pub count_from-rows-requires : goal.count_from-rows-requires
count_from-rows-requires c = let t = checks_tile _ c.requires in omega arith

pub count_from-cols-requires : goal.count_from-cols-requires
count_from-cols-requires c = let t = checks_tile _ c.requires in omega arith

pub overflow_mul-result : goal.overflow_mul-result
overflow_mul-result c =
    let t = checks_tile _ c.requires in
    let r : c.count_from-rows.result ≤ 60 = rw c.count_from-rows.ensures t.rows-most in
    let s : c.count_from-cols.result ≤ 60 = rw c.count_from-cols.ensures t.cols-most in
    omega (arith, area_sixty r s)

pub returns : goal.returns
returns c = rw (c.count_from-rows.ensures, c.count_from-cols.ensures) (refl, (checks_tile _ c.requires).area_most)
