-- `blurs::misfit` meets its contract.
use native.Mathlib.Omega.{arith}
use Rattle.tables.proofs.RefusalLaws.{sides_most}
use Rattle.grid.proofs.GridLaws.{area}
use Rattle.probe.specs.Blurs.{misfits}
use Rattle.probe.proofs.blurs.misfit.Goals as goal

pub returns-then-rows-cols : goal.returns-then-rows-cols
unfolding misfits
returns-then-rows-cols c = rw c.if-rows-cols.true

pub overflow_mul-area : goal.overflow_mul-area
overflow_mul-area c =
    let a = c.args in
    let most = sides_most a.rows a.cols c.if-rows-cols.false in
    omega (arith, area most.0 most.1)

pub returns : goal.returns
unfolding misfits
returns c = rw c.if-rows-cols.false
