-- `halve::checked` meets its contract: each return follows from the tests on the way to it.
use native.Mathlib.Omega.{arith}
use borrow.Author.Tests.{lt-ltb, le-ltb, eq-eqb, ne_eqb}
use Rattle.tables.specs.Refusal.{unless, first_of}
use Rattle.tables.proofs.RefusalLaws.{sides_most}
use Rattle.pyramid.specs.Pyramid.{half_of, downsample_checks, needed}
use Rattle.grid.proofs.GridLaws.{area}
use Rattle.pyramid.proofs.HalvedLaws.{half_twice}
use Rattle.pyramid.proofs.halve.checked.Goals as goal

pub returns-then-rows-cols : goal.returns-then-rows-cols
unfolding downsample_checks first_of unless
returns-then-rows-cols c = rw c.if-rows-cols.true

pub overflow_mul-area : goal.overflow_mul-area
overflow_mul-area c =
    let a = c.args in
    let most = sides_most a.rows a.cols c.if-rows-cols.false in
    omega (arith, area most.0 most.1)

pub overflow_mul-needed : goal.overflow_mul-needed
overflow_mul-needed c =
    let a = c.args in
    let most = sides_most a.rows a.cols c.if-rows-cols.false in
    let tall = half_twice a.rows a.cols in
    let wide = half_twice a.cols a.rows in
    rw (c.half.ensures, c.half-2.ensures) (omega (arith, area {a = half_of a.rows a.cols} {b = half_of a.cols a.rows} (omega (arith, most.0)) (omega (arith, most.1))))

pub returns-then-n-area : goal.returns-then-n-area
unfolding downsample_checks first_of unless
returns-then-n-area c = rw (c.if-rows-cols.false, ne_eqb _ _ c.if-n-area.true)

pub returns-then-room-needed : goal.returns-then-room-needed
unfolding downsample_checks first_of unless needed
returns-then-room-needed c =
    rw (c.if-rows-cols.false, eq-eqb _ _ c.if-n-area.false, ← c.half.ensures, ← c.half-2.ensures, lt-ltb _ _ c.if-room-needed.true)

pub returns : goal.returns
unfolding downsample_checks first_of unless needed
returns c =
    rw (c.if-rows-cols.false, eq-eqb _ _ c.if-n-area.false, ← c.half.ensures, ← c.half-2.ensures, le-ltb _ _ c.if-room-needed.false)
