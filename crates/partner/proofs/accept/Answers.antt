-- `accept` meets its contract, refusals and all.
use Rattle.std.proofs.lemmas.Result.{err_from_is_err_and}
use Rattle.std.specs.Prelude.{Ok}
use native.Mathlib.Omega.{arith}
use mathlib.Core.Path.{sym, ap, ◌∙◌}
use Rattle.detect.proofs.DetectLaws.{checks_passed}
use Rattle.partner.specs.Partner.{replied_of, partner_of}
use Rattle.partner.proofs.CheckLaws.{checks_fine}
use Rattle.partner.proofs.accept.Goals as goal

pub overflow_cast-map : goal.overflow_cast-map
overflow_cast-map c =
    let fine = checks_fine _ _ _ _ _ _ _ _ _ _ (sym c.checked.ensures ∙ c.in_ok-checked.was) in
    omega (arith, (checks_passed _ _ _ _ _ _ _ _ _ fine.0).octave-most)

pub invariant_of-map : goal.invariant_of-map
invariant_of-map c =
    let fine = checks_fine _ _ _ _ _ _ _ _ _ _ (sym c.checked.ensures ∙ c.in_ok-checked.was) in
    record { sized = (checks_passed _ _ _ _ _ _ _ _ _ fine.0).sized }

pub returns-in_err-checked : goal.returns-in_err-checked
unfolding partner_of replied_of
returns-in_err-checked c =
    let p = err_from_is_err_and c.from_residual.result c.from_residual.ensures.1 in
    rw (p.1, p.2, ← c.checked.ensures, c.in_err-checked.was)

pub returns : goal.returns
unfolding partner_of replied_of
returns c = rw (← c.checked.ensures, c.in_ok-checked.was) (ap Ok c.followed.ensures)
