-- `checks::strike` meets its contract.
use Rattle.std.proofs.lemmas.Result.{err_from_is_err_and}
use borrow.Author.Tests.{not-true, not-false}
use mathlib.Core.Path.{◌≡◌, sym, ◌∙◌}
use mathlib.Core.Bool.{true, false}
use lib.ListN.{get_or}
use Rattle.tables.specs.Refusal.{first_of, unless}
use Rattle.store_slots.specs.Slots.{free_bytes, is_free, slots_of}
use Rattle.store.proofs.StoreLaws.{strike_over, strike_stops}
use Rattle.store.proofs.checks.strike.Goals as goal

pub returns-then-not-is_live : goal.returns-then-not-is_live
unfolding first_of unless
returns-then-not-is_live c =
    let a = c.args in
    let fine = sym c.close_up.ensures ∙ c.in_ok-close_up.was in
    let live = c.is_live in
    let free : is_free (get_or (slots_of a.b.now) a.i free_bytes) ≡ true = not-false _ (sym live.ensures ∙ c.if-not-is_live.true) in
    rw (strike_over a.rows a.cols a.b.now a.i fine, free)

pub returns-in_err-close_up : goal.returns-in_err-close_up
returns-in_err-close_up c =
    let a = c.args in
    let p = err_from_is_err_and c.from_residual.result c.from_residual.ensures.1 in
    rw (p.1, p.2) (sym (strike_stops a.rows a.cols a.b.now a.i _ (sym c.close_up.ensures ∙ c.in_err-close_up.was)))

pub returns : goal.returns
unfolding first_of unless
returns c =
    let a = c.args in
    let fine = sym c.close_up.ensures ∙ c.in_ok-close_up.was in
    let live = c.is_live in
    let held : is_free (get_or (slots_of a.b.now) a.i free_bytes) ≡ false = not-true _ (sym live.ensures ∙ c.if-not-is_live.false) in
    rw (strike_over a.rows a.cols a.b.now a.i fine, held)
