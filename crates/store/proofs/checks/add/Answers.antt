-- `checks::add` meets its contract.
use Rattle.std.proofs.lemmas.Result.{err_from_is_err_and}
use borrow.Author.Tests.{le-leb, lt-leb}
use mathlib.Core.Path.{sym, ◌∙◌}
use Rattle.tables.specs.Refusal.{first_of, unless}
use Rattle.store.proofs.StoreLaws.{close_passed, add_over, add_stops}
use Rattle.store.proofs.checks.add.Goals as goal

pub is_good_new-good-requires : goal.is_good_new-good-requires
is_good_new-good-requires c =
    let a = c.args in
    let p = close_passed a.rows a.cols a.b.now (sym c.close_up.ensures ∙ c.in_ok-close_up.was) in
    record { rows_bound = p.rows-most; cols_bound = p.cols-most }

pub returns-then-not-good : goal.returns-then-not-good
unfolding first_of unless
returns-then-not-good c =
    let a = c.args in
    let fine = sym c.close_up.ensures ∙ c.in_ok-close_up.was in
    let good = c.is_good_new-good in
    rw (add_over a.rows a.cols a.b.now a.spot.now fine, ← good.ensures, c.if-not-good.true)

pub returns-then-slots-free : goal.returns-then-slots-free
unfolding first_of unless
returns-then-slots-free c =
    let a = c.args in
    let fine = sym c.close_up.ensures ∙ c.in_ok-close_up.was in
    let good = c.is_good_new-good in
    rw (add_over a.rows a.cols a.b.now a.spot.now fine, ← good.ensures, c.if-not-good.false, ← c.requires, le-leb _ _ c.if-slots-free.true)

pub returns-in_err-close_up : goal.returns-in_err-close_up
returns-in_err-close_up c =
    let a = c.args in
    let p = err_from_is_err_and c.from_residual.result c.from_residual.ensures.1 in
    rw (p.1, p.2) (sym (add_stops a.rows a.cols a.b.now a.spot.now _ (sym c.close_up.ensures ∙ c.in_err-close_up.was)))

pub returns : goal.returns
unfolding first_of unless
returns c =
    let a = c.args in
    let fine = sym c.close_up.ensures ∙ c.in_ok-close_up.was in
    let good = c.is_good_new-good in
    rw (add_over a.rows a.cols a.b.now a.spot.now fine, ← good.ensures, c.if-not-good.false, ← c.requires, lt-leb _ _ c.if-slots-free.false)
