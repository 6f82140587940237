-- `checked` meets its contract: each return follows from the tests on the way to it. Every test is put for its check, also where a return needs fewer.
use native.Mathlib.Omega.{arith}
use mathlib.Core.Path.{sym, ◌∙◌}
use borrow.Author.Tests.{not-true, not-false}
use Rattle.tables.specs.Refusal.{unless, first_of}
use Rattle.scene_checks.specs.Checks.{scene_checks}
use Rattle.scene_checks.proofs.ChecksLaws.{area_most}
use Rattle.scene_checks.proofs.checked.Goals as goal

pub returns-then-sides_off : goal.returns-then-sides_off
unfolding scene_checks first_of unless
returns-then-sides_off c = rw (← c.room_off-short.ensures, ← c.octave_off-high.ensures, ← c.has_nan-lost.ensures, ← c.is_good-good.ensures, ← c.sides_off.ensures, c.if-sides_off.true)

pub overflow_mul-rows : goal.overflow_mul-rows
overflow_mul-rows c = let a = c.args in omega (arith, area_most a.rows a.cols (sym c.sides_off.ensures ∙ c.if-sides_off.false))

pub returns-then-levels_off : goal.returns-then-levels_off
unfolding scene_checks first_of unless
returns-then-levels_off c = rw (← c.room_off-short.ensures, ← c.octave_off-high.ensures, ← c.has_nan-lost.ensures, ← c.is_good-good.ensures, ← c.sides_off.ensures, c.if-sides_off.false, ← c.levels_off.ensures, c.if-levels_off.true)

pub returns-then-high : goal.returns-then-high
unfolding scene_checks first_of unless
returns-then-high c = rw (← c.room_off-short.ensures, ← c.octave_off-high.ensures, ← c.has_nan-lost.ensures, ← c.is_good-good.ensures, ← c.sides_off.ensures, c.if-sides_off.false, ← c.levels_off.ensures, c.if-levels_off.false, c.if-high.true)

pub returns-then-lost : goal.returns-then-lost
unfolding scene_checks first_of unless
returns-then-lost c = rw (← c.room_off-short.ensures, ← c.octave_off-high.ensures, ← c.has_nan-lost.ensures, ← c.is_good-good.ensures, ← c.sides_off.ensures, c.if-sides_off.false, ← c.levels_off.ensures, c.if-levels_off.false, c.if-high.false, c.if-lost.true)

pub returns-then-not-good : goal.returns-then-not-good
unfolding scene_checks first_of unless
returns-then-not-good c = rw (← c.room_off-short.ensures, ← c.octave_off-high.ensures, ← c.has_nan-lost.ensures, ← c.is_good-good.ensures, ← c.sides_off.ensures, c.if-sides_off.false, ← c.levels_off.ensures, c.if-levels_off.false, c.if-high.false, c.if-lost.false, not-true c.is_good-good.result c.if-not-good.true-raw)

pub returns-then-short : goal.returns-then-short
unfolding scene_checks first_of unless
returns-then-short c = rw (← c.room_off-short.ensures, ← c.octave_off-high.ensures, ← c.has_nan-lost.ensures, ← c.is_good-good.ensures, ← c.sides_off.ensures, c.if-sides_off.false, ← c.levels_off.ensures, c.if-levels_off.false, c.if-high.false, c.if-lost.false, not-false c.is_good-good.result c.if-not-good.false-raw, c.if-short.true)

pub returns : goal.returns
unfolding scene_checks first_of unless
returns c = rw (← c.room_off-short.ensures, ← c.octave_off-high.ensures, ← c.has_nan-lost.ensures, ← c.is_good-good.ensures, ← c.sides_off.ensures, c.if-sides_off.false, ← c.levels_off.ensures, c.if-levels_off.false, c.if-high.false, c.if-lost.false, not-false c.is_good-good.result c.if-not-good.false-raw, c.if-short.false)
