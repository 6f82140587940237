-- `check::checked` meets its contract: each return follows from the tests on the way to it.
use borrow.Author.Tests.{lt-ltb, le-ltb}
use Rattle.tables.specs.Refusal.{unless, first_of}
use Rattle.tables.proofs.RefusalLaws.{sides_most}
use Rattle.join.specs.Join.{join_checks}
use Rattle.join.proofs.check.checked.Goals as goal

pub returns-then-rows-cols : goal.returns-then-rows-cols
unfolding join_checks first_of unless
returns-then-rows-cols g c = rw c.if-rows-cols.true

pub returns-then-not-good : goal.returns-then-not-good
unfolding join_checks first_of unless
returns-then-not-good g c = rw (c.if-rows-cols.false, ← c.is_good-good.ensures, c.if-not-good.true)

pub returns-then-not-whole : goal.returns-then-not-whole
unfolding join_checks first_of unless
returns-then-not-whole g c =
    rw (c.if-rows-cols.false, ← c.is_good-good.ensures, c.if-not-good.false, ← c.is_whole-whole.ensures, c.if-not-whole.true, ← c.count_of-count.ensures)

pub first_bad-bad-requires : goal.first_bad-bad-requires
first_bad-bad-requires g c =
    let m = sides_most c.args.rows c.args.cols c.if-rows-cols.false in
    record { rows_bound = m.0; cols_bound = m.1 }

pub returns-then-bad-count : goal.returns-then-bad-count
unfolding join_checks first_of unless
returns-then-bad-count g c =
    rw (c.if-rows-cols.false, ← c.is_good-good.ensures, c.if-not-good.false, ← c.is_whole-whole.ensures, c.if-not-whole.false, ← c.first_bad-bad.ensures, ← c.count_of-count.ensures, lt-ltb _ _ c.if-bad-count.true)

pub returns-then-is_short : goal.returns-then-is_short
unfolding join_checks first_of unless
returns-then-is_short g c =
    rw (c.if-rows-cols.false, ← c.is_good-good.ensures, c.if-not-good.false, ← c.is_whole-whole.ensures, c.if-not-whole.false, ← c.first_bad-bad.ensures, ← c.count_of-count.ensures, le-ltb _ _ c.if-bad-count.false, ← c.is_short.ensures, c.if-is_short.true)

pub returns : goal.returns
unfolding join_checks first_of unless
returns g c =
    rw (c.if-rows-cols.false, ← c.is_good-good.ensures, c.if-not-good.false, ← c.is_whole-whole.ensures, c.if-not-whole.false, ← c.first_bad-bad.ensures, ← c.count_of-count.ensures, le-ltb _ _ c.if-bad-count.false, ← c.is_short.ensures, c.if-is_short.false)
