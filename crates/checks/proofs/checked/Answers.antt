-- `checked` meets its contract: each return follows from the tests on the way to it. Every test is put for its check, also where a return needs fewer.
use native.Mathlib.Nat.{mul-le-mul}
use native.Mathlib.Omega.{arith}
use mathlib.Core.Path.{sym, ◌∙◌}
use borrow.Author.Tests.{not-true, not-false}
use Rattle.tables.specs.Refusal.{unless, first_of}
use Rattle.tables.proofs.RefusalLaws.{sides_most}
use Rattle.checks.specs.Checks.{detect_checks}
use Rattle.checks.proofs.checked.Goals as goal

pub returns-then-sides_off : goal.returns-then-sides_off
unfolding detect_checks first_of unless
returns-then-sides_off c = rw (← c.octave_off-high.ensures, ← c.has_nan-lost.ensures, ← c.is_good-good.ensures, ← c.sides_off.ensures, c.if-sides_off.true)

pub overflow_mul-rows : goal.overflow_mul-rows
overflow_mul-rows c =
    let given = c.args in
    let most = sides_most given.rows given.cols (sym c.sides_off.ensures ∙ c.if-sides_off.false) in
    omega (arith, mul-le-mul most.0 most.1)

pub returns-then-levels_off : goal.returns-then-levels_off
unfolding detect_checks first_of unless
returns-then-levels_off c = rw (← c.octave_off-high.ensures, ← c.has_nan-lost.ensures, ← c.is_good-good.ensures, ← c.sides_off.ensures, c.if-sides_off.false, ← c.levels_off.ensures, c.if-levels_off.true)

pub returns-then-high : goal.returns-then-high
unfolding detect_checks first_of unless
returns-then-high c = rw (← c.octave_off-high.ensures, ← c.has_nan-lost.ensures, ← c.is_good-good.ensures, ← c.sides_off.ensures, c.if-sides_off.false, ← c.levels_off.ensures, c.if-levels_off.false, c.if-high.true)

pub returns-then-lost : goal.returns-then-lost
unfolding detect_checks first_of unless
returns-then-lost c = rw (← c.octave_off-high.ensures, ← c.has_nan-lost.ensures, ← c.is_good-good.ensures, ← c.sides_off.ensures, c.if-sides_off.false, ← c.levels_off.ensures, c.if-levels_off.false, c.if-high.false, c.if-lost.true)

pub returns-then-not-good : goal.returns-then-not-good
unfolding detect_checks first_of unless
returns-then-not-good c = rw (← c.octave_off-high.ensures, ← c.has_nan-lost.ensures, ← c.is_good-good.ensures, ← c.sides_off.ensures, c.if-sides_off.false, ← c.levels_off.ensures, c.if-levels_off.false, c.if-high.false, c.if-lost.false, not-true c.is_good-good.result c.if-not-good.true-raw)

pub returns : goal.returns
unfolding detect_checks first_of unless
returns c = rw (← c.octave_off-high.ensures, ← c.has_nan-lost.ensures, ← c.is_good-good.ensures, ← c.sides_off.ensures, c.if-sides_off.false, ← c.levels_off.ensures, c.if-levels_off.false, c.if-high.false, c.if-lost.false, not-false c.is_good-good.result c.if-not-good.false-raw)
