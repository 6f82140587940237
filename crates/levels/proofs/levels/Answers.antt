-- `levels` meets its contract, refusals and all.
use Rattle.std.proofs.lemmas.Result.{err_from_is_err_and}
use native.Mathlib.Omega.{arith}
use mathlib.Core.Path.{sym, ◌∙◌}
use Rattle.levels.specs.Levels.{levels_of, made}
use Rattle.levels.proofs.LevelsLaws.{checks_passed}
use Rattle.levels.proofs.levels.Goals as goal

pub two-requires : goal.two-requires
two-requires c = record { n_bound = omega arith; plane = (checks_passed _ _ _ _ _ _ _ _ _ (sym c.checked.ensures ∙ c.in_ok-checked.was)).first }

pub two-requires-2 : goal.two-requires-2
two-requires-2 c = record { n_bound = omega arith; plane = (checks_passed _ _ _ _ _ _ _ _ _ (sym c.checked.ensures ∙ c.in_ok-checked.was)).last }

pub returns-in_err-checked : goal.returns-in_err-checked
unfolding levels_of made
returns-in_err-checked c =
    let p = err_from_is_err_and c.from_residual.result c.from_residual.ensures.1 in
    rw (p.1, p.2, ← c.checked.ensures, c.in_err-checked.was)

pub returns : goal.returns
unfolding levels_of made
returns c =
    let fine = sym c.checked.ensures ∙ c.in_ok-checked.was in
    let first = c.two.ensures in
    let last = c.two-2.ensures in
    rw (fine, first.0, first.1, last.0, last.1)
