-- `join_by` meets its contract, refusals and all.
use Rattle.std.proofs.lemmas.Result.{err_from_is_err_and}
use mathlib.Core.Path.{sym, ◌∙◌}
use Rattle.join.specs.Join.{join_by, joined}
use Rattle.join.proofs.CheckLaws.{checks_passed, passed_writable}
use Rattle.join.proofs.SizedLaws.{stored-laid}
use Rattle.join.proofs.join_by.Goals as goal

pub put_all-requires : goal.put_all-requires
put_all-requires g c =
    passed_writable _ _ _ _ _ _ (checks_passed _ _ _ _ _ _ (sym c.checked.ensures ∙ c.in_ok-checked.was))

pub returns-in_err-checked : goal.returns-in_err-checked
unfolding join_by joined
returns-in_err-checked g c =
    let p = err_from_is_err_and c.from_residual.result c.from_residual.ensures.1 in
    rw (p.1, p.2, ← c.checked.ensures, c.in_err-checked.was)

pub returns : goal.returns
unfolding join_by joined
returns g c =
    let fine = sym c.checked.ensures ∙ c.in_ok-checked.was in
    let put = c.put_all.ensures in
    rw (fine, put.0, put.1, stored-laid _ _ _ _ (checks_passed _ _ _ _ _ _ fine).room-enough)
