-- `close_up` meets its contract.
use Rattle.std.proofs.lemmas.Result.{err_from_is_err_and}
use mathlib.Core.Path.{sym, ◌∙◌}
use Rattle.store.specs.Store.{CloseUp}
use Rattle.store.proofs.StoreLaws.{close_passed, call_refused}
use Rattle.store.proofs.CallLaws.{close-done}
use Rattle.store.proofs.close_up.Goals as goal

pub close_up-requires-2 : goal.close_up-requires-2
close_up-requires-2 c =
    let a = c.args in
    (close_passed a.rows a.cols a.buffer.now (sym c.close_up.ensures ∙ c.in_ok-close_up.was)).whole

pub returns-in_err-close_up : goal.returns-in_err-close_up
returns-in_err-close_up c =
    let a = c.args in
    let p = err_from_is_err_and c.from_residual.result c.from_residual.ensures.1 in
    rw (p.1, p.2) (sym (call_refused (CloseUp a.rows a.cols) a.buffer.now _ (sym c.close_up.ensures ∙ c.in_err-close_up.was)))

pub returns : goal.returns
returns c =
    let a = c.args in
    let p = c.close_up-2.ensures in
    close-done a.rows a.cols _ a.buffer.now _ (sym c.close_up.ensures ∙ c.in_ok-close_up.was) p.0 p.1
