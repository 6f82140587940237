-- `check::checked` meets its contract.
use Rattle.std.proofs.lemmas.Result.{err_from_is_err_and}
use mathlib.Core.Path.{sym, ◌∙◌}
use Rattle.tables.proofs.RefusalLaws.{first_over, first_stops}
use Rattle.detect.proofs.DetectLaws.{checks_passed}
use Rattle.partner.specs.Partner.{partner_checks}
use Rattle.partner.proofs.check.checked.Goals as goal

pub records_checked-requires : goal.records_checked-requires
records_checked-requires c =
    let passed = checks_passed _ _ _ _ _ _ _ _ _ (sym c.checked.ensures ∙ c.in_ok-checked.was) in
    record { rows_bound = passed.sized.rows-most; cols_bound = passed.sized.cols-most }

pub returns-in_err-checked : goal.returns-in_err-checked
unfolding partner_checks
returns-in_err-checked c =
    let p = err_from_is_err_and c.from_residual.result c.from_residual.ensures.1 in
    rw (p.1, p.2) (sym (first_stops _ _ _ (sym c.checked.ensures ∙ c.in_err-checked.was)))

pub returns : goal.returns
unfolding partner_checks
returns c = c.records_checked.ensures ∙ sym (first_over _ _ (sym c.checked.ensures ∙ c.in_ok-checked.was))
