-- `checks::checked` meets its contract: each return follows from the tests on the way to it.
use native.Mathlib.Omega.{arith}
use borrow.Author.Tests.{lt-ltb, le-ltb, eq-eqb, ne_eqb}
use Rattle.tables.specs.Refusal.{unless, first_of}
use Rattle.tables.proofs.RefusalLaws.{sides_most}
use Rattle.grid.proofs.GridLaws.{area}
use Rattle.levels.specs.Levels.{levels_checks}
use Rattle.levels.proofs.checks.checked.Goals as goal

pub returns-then-rows-cols : goal.returns-then-rows-cols
unfolding levels_checks first_of unless
returns-then-rows-cols c = rw c.if-rows-cols.true

pub overflow_mul-area : goal.overflow_mul-area
overflow_mul-area c =
    let a = c.args in
    let most = sides_most a.rows a.cols c.if-rows-cols.false in
    omega (arith, area most.0 most.1)

pub returns-then-n-area : goal.returns-then-n-area
unfolding levels_checks first_of unless
returns-then-n-area c = rw (c.if-rows-cols.false, ne_eqb _ _ c.if-n-area.true)

pub returns-then-octave-gt5 : goal.returns-then-octave-gt5
unfolding levels_checks first_of unless
returns-then-octave-gt5 c = rw (c.if-rows-cols.false, eq-eqb _ _ c.if-n-area.false, lt-ltb 5 _ c.if-octave-gt5.true)

pub returns-then-not-good : goal.returns-then-not-good
unfolding levels_checks first_of unless
returns-then-not-good c = rw (c.if-rows-cols.false, eq-eqb _ _ c.if-n-area.false, le-ltb 5 _ c.if-octave-gt5.false, ← c.is_good-good.ensures, c.if-not-good.true)

pub returns-then-short : goal.returns-then-short
unfolding levels_checks first_of unless
returns-then-short c = rw (c.if-rows-cols.false, eq-eqb _ _ c.if-n-area.false, le-ltb 5 _ c.if-octave-gt5.false, ← c.is_good-good.ensures, c.if-not-good.false, ← c.short.ensures, c.if-short.true)

pub returns : goal.returns
unfolding levels_checks first_of unless
returns c = rw (c.if-rows-cols.false, eq-eqb _ _ c.if-n-area.false, le-ltb 5 _ c.if-octave-gt5.false, ← c.is_good-good.ensures, c.if-not-good.false, ← c.short.ensures, c.if-short.false)
