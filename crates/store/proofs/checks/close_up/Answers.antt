-- `checks::close_up` meets its contract.
use borrow.Author.Tests.{lt-ltb, le-ltb, eq-eqb, ne_eqb}
use Rattle.tables.specs.Refusal.{first_of, unless}
use Rattle.tables.proofs.RefusalLaws.{sides_most}
use Rattle.store.specs.Store.{call_checks}
use Rattle.store.proofs.checks.close_up.Goals as goal

pub returns-then-rows-cols : goal.returns-then-rows-cols
unfolding call_checks first_of unless
returns-then-rows-cols c = rw c.if-rows-cols.true

pub returns-then-b-ne0 : goal.returns-then-b-ne0
unfolding call_checks first_of unless
returns-then-b-ne0 c = rw (c.if-rows-cols.false, ne_eqb _ _ c.if-b-ne0.true)

pub first_bad-bad-requires : goal.first_bad-bad-requires
first_bad-bad-requires c =
    let a = c.args in
    let most = sides_most a.rows a.cols c.if-rows-cols.false in
    record { rows_bound = most.0; cols_bound = most.1 }

pub returns-then-bad-count : goal.returns-then-bad-count
unfolding call_checks first_of unless
returns-then-bad-count c = rw (c.if-rows-cols.false, eq-eqb _ _ c.if-b-ne0.false, ← c.first_bad-bad.ensures, lt-ltb _ _ c.if-bad-count.true)

pub returns : goal.returns
unfolding call_checks first_of unless
returns c = rw (c.if-rows-cols.false, eq-eqb _ _ c.if-b-ne0.false, ← c.first_bad-bad.ensures, le-ltb _ _ c.if-bad-count.false)
