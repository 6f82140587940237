-- `detect` meets its contract, refusals and all.
use Rattle.std.proofs.lemmas.Result.{err_from_is_err_and}
use native.Mathlib.Omega.{arith}
use mathlib.Core.Path.{sym, ◌∙◌}
use Rattle.detect.specs.Detect.{detect_of, detected}
use Rattle.detect.proofs.DetectLaws.{checks_passed, found-laid}
use Rattle.detect.proofs.detect.Goals as goal

pub overflow_cast-map : goal.overflow_cast-map
overflow_cast-map c = let passed = checks_passed _ _ _ _ _ _ _ _ _ (sym c.checked.ensures ∙ c.in_ok-checked.was) in omega (arith, passed.octave-most)

pub invariant_of-map : goal.invariant_of-map
invariant_of-map c = record { sized = (checks_passed _ _ _ _ _ _ _ _ _ (sym c.checked.ensures ∙ c.in_ok-checked.was)).sized }

pub returns-in_err-checked : goal.returns-in_err-checked
unfolding detect_of detected
returns-in_err-checked c =
    let p = err_from_is_err_and c.from_residual.result c.from_residual.ensures.1 in
    rw (p.1, p.2, ← c.checked.ensures, c.in_err-checked.was)

pub returns : goal.returns
unfolding detect_of
returns c =
    rw (← c.checked.ensures, c.in_ok-checked.was)
    (found-laid _ c.rows_spots.ensures)
