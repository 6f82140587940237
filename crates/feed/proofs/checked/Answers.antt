-- `checked` meets its contract: each return follows from the tests on the way to it.
use mathlib.Core.Path.{sym, ◌∙◌}
use borrow.Author.Tests.{not-true, not-false}
use Rattle.tables.specs.Refusal.{unless, first_of}
use Rattle.tables.proofs.RefusalLaws.{sides_most}
use Rattle.feed.specs.Feed.{start_checks}
use Rattle.feed.proofs.checked.Goals as goal

pub returns-then-sides_off : goal.returns-then-sides_off
unfolding start_checks first_of unless
returns-then-sides_off c = rw (← c.octave_off-high.ensures, ← c.has_nan-lost.ensures, ← c.is_good-good.ensures, ← c.sides_off.ensures, c.if-sides_off.true)

pub ring_off-short-requires : goal.ring_off-short-requires
ring_off-short-requires c = (sides_most c.args.rows c.args.cols (sym c.sides_off.ensures ∙ c.if-sides_off.false)).0

pub returns-then-high : goal.returns-then-high
unfolding start_checks first_of unless
returns-then-high c = rw (← c.octave_off-high.ensures, ← c.has_nan-lost.ensures, ← c.is_good-good.ensures, ← c.sides_off.ensures, c.if-sides_off.false, ← c.ring_off-short.ensures, c.if-high.true)

pub returns-then-lost : goal.returns-then-lost
unfolding start_checks first_of unless
returns-then-lost c = rw (← c.octave_off-high.ensures, ← c.has_nan-lost.ensures, ← c.is_good-good.ensures, ← c.sides_off.ensures, c.if-sides_off.false, ← c.ring_off-short.ensures, c.if-high.false, c.if-lost.true)

pub returns-then-not-good : goal.returns-then-not-good
unfolding start_checks first_of unless
returns-then-not-good c = rw (← c.octave_off-high.ensures, ← c.has_nan-lost.ensures, ← c.is_good-good.ensures, ← c.sides_off.ensures, c.if-sides_off.false, ← c.ring_off-short.ensures, c.if-high.false, c.if-lost.false, not-true c.is_good-good.result c.if-not-good.true-raw)

pub returns-then-short : goal.returns-then-short
unfolding start_checks first_of unless
returns-then-short c = rw (← c.octave_off-high.ensures, ← c.has_nan-lost.ensures, ← c.is_good-good.ensures, ← c.sides_off.ensures, c.if-sides_off.false, ← c.ring_off-short.ensures, c.if-high.false, c.if-lost.false, not-false c.is_good-good.result c.if-not-good.false-raw, c.if-short.true)

pub returns : goal.returns
unfolding start_checks first_of unless
returns c = rw (← c.octave_off-high.ensures, ← c.has_nan-lost.ensures, ← c.is_good-good.ensures, ← c.sides_off.ensures, c.if-sides_off.false, ← c.ring_off-short.ensures, c.if-high.false, c.if-lost.false, not-false c.is_good-good.result c.if-not-good.false-raw, c.if-short.false)
