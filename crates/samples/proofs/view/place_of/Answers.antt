-- `view::place_of` meets its contract: no product is made that could be past the level.
use mathlib.Core.Path.{◌≡◌}
use Prim.Native.Nat.{◌+◌, ◌*◌, ◌≤◌}
use native.Mathlib.Nat.{mul-zero}
use native.Mathlib.Omega.{arith}
use Rattle.samples.proofs.ViewLaws.{place-past, place_inside}
use Rattle.samples.proofs.view.place_of.Goals as goal
use Rattle.samples.proofs.view.place_of.Goals.{Else-n-row-2}

-- past all tests the place is the level's own or its end
inside : (c : Else-n-row-2) → let a = c.args in a.col * a.rows + a.row ≤ a.n
inside c = let a = c.args in place_inside a.n a.rows a.row a.col (omega arith) (omega arith) (omega (arith, c.if-n-row-2.false))

pub returns-then-rows-eq0 : goal.returns-then-rows-eq0
returns-then-rows-eq0 c = let a = c.args in let none : a.col * a.rows ≡ 0 = rw (c.if-rows-eq0.true, mul-zero) in omega (arith, none, c.if-n-row.false)

pub returns-then-n-row-2 : goal.returns-then-n-row-2
returns-then-n-row-2 c = let a = c.args in omega (arith, place-past a.n a.rows a.row a.col (omega arith) c.if-n-row-2.true)

pub overflow_mul-result : goal.overflow_mul-result
overflow_mul-result c = omega (arith, inside (goal.at.overflow_mul-result c).Else-n-row-2)

pub overflow_add-result : goal.overflow_add-result
overflow_add-result c = omega (arith, inside (goal.at.overflow_add-result c).Else-n-row-2)

pub returns : goal.returns
returns c = omega (arith, inside (goal.at.returns c).Else-n-row-2)
