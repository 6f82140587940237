-- `place` meets its contract. The product of rows with either of the other two is small.
use native.Mathlib.Omega.{arith}
use mathlib.Core.Path.{refl}
use Rattle.grid.proofs.GridLaws.{area}
use Rattle.nine.proofs.place.Goals as goal

pub overflow_mul-result : goal.overflow_mul-result
overflow_mul-result c = omega (arith, area {a = c.args.col} {b = c.args.rows} c.requires.2 c.requires.0, area {a = c.args.row} {b = c.args.rows} c.requires.1 c.requires.0)

pub overflow_add-result : goal.overflow_add-result
overflow_add-result c = omega (arith, area {a = c.args.col} {b = c.args.rows} c.requires.2 c.requires.0, area {a = c.args.row} {b = c.args.rows} c.requires.1 c.requires.0, c.requires.1, c.requires.2)

pub returns : goal.returns
returns c = (refl, omega (arith, area {a = c.args.col} {b = c.args.rows} c.requires.2 c.requires.0, c.requires.1))
