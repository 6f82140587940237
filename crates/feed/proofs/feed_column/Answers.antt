-- `feed_column` meets its contract, refusals and all.
use mathlib.Core.Path.{sym, ◌∙◌}
use Rattle.tables.specs.Refusal.{unless, first_of}
use Rattle.samples.specs.Four.{four_of}
use Rattle.feed.specs.Feed.{column_checks, fed_by, column_of}
use Rattle.feed.proofs.FeedLaws.{not-past, not_wrong, not_short}
use Rattle.feed.proofs.feed_column.Goals as goal

pub returns-then-past : goal.returns-then-past
unfolding column_of column_checks first_of unless fed_by
returns-then-past c = rw (← c.is_past-past.ensures, ← c.levels_off-wrong.ensures, c.if-past.true)

pub returns-then-wrong : goal.returns-then-wrong
unfolding column_of column_checks first_of unless fed_by
returns-then-wrong c = rw (← c.is_past-past.ensures, ← c.levels_off-wrong.ensures, c.if-past.false, c.if-wrong.true)

pub ring_off-requires : goal.ring_off-requires
ring_off-requires c = (not-past c.args.s.now (sym c.is_past-past.ensures ∙ c.if-past.false)).0

pub returns-then-ring_off : goal.returns-then-ring_off
unfolding column_of column_checks first_of unless fed_by
returns-then-ring_off c = rw (← c.is_past-past.ensures, ← c.levels_off-wrong.ensures, c.if-past.false, c.if-wrong.false, ← c.ring_off.ensures, c.if-ring_off.true)

pub taken-requires : goal.taken-requires
taken-requires c =
    let a = c.args in
    let past = not-past a.s.now (sym c.is_past-past.ensures ∙ c.if-past.false) in
    let wrong = not_wrong a.s.now.rows (four_of a.c0.now a.c1.now a.c2.now a.c3.now) (sym c.levels_off-wrong.ensures ∙ c.if-wrong.false) in
    let short = not_short a.s.now.rows (four_of a.r0.now a.r1.now a.r2.now a.r3.now) (sym c.ring_off.ensures ∙ c.if-ring_off.false) in
    record { lent = record { rows-most = past.0; roomy = short; long = wrong }; cols_bound = (past.1, past.2) }

pub returns : goal.returns
unfolding column_of column_checks first_of unless fed_by
returns c =
    rw (← c.is_past-past.ensures, ← c.levels_off-wrong.ensures, c.if-past.false, c.if-wrong.false, ← c.ring_off.ensures, c.if-ring_off.false) c.taken.ensures
