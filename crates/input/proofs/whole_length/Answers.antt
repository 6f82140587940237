-- `whole_length` meets its contract.
use native.Mathlib.Omega.{arith}
use Rattle.input.proofs.InputLaws.{area_sixty}
use Rattle.input.proofs.whole_length.Goals as goal

pub overflow_mul-result : goal.overflow_mul-result
overflow_mul-result c = omega (arith, area_sixty c.requires.rows_bound c.requires.cols_bound)

pub overflow_mul-result-2 : goal.overflow_mul-result-2
overflow_mul-result-2 c = omega (arith, area_sixty c.requires.rows_bound c.requires.cols_bound)

pub overflow_add-result : goal.overflow_add-result
overflow_add-result c = omega (arith, area_sixty c.requires.rows_bound c.requires.cols_bound)
