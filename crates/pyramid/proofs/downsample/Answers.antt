-- `downsample` meets its contract, refusals and all.
use mathlib.Core.Path.{sym, ◌∙◌}
use Rattle.std.proofs.lemmas.Result.{err_from_is_err_and}
use Rattle.pyramid.specs.Pyramid.{downsample_of, downsampled}
use Rattle.pyramid.proofs.HalvedLaws.{checks_passed, passed_halves, halved_stored}
use Rattle.pyramid.proofs.downsample.Goals as goal

pub halve_level-requires : goal.halve_level-requires
halve_level-requires c =
    let fine = sym c.checked.ensures ∙ c.in_ok-checked.was in
    rw (c.half-height.ensures, c.half-width.ensures) (passed_halves (checks_passed _ _ _ _ fine))

pub returns-in_err-checked : goal.returns-in_err-checked
unfolding downsample_of downsampled
returns-in_err-checked c =
    let p = err_from_is_err_and c.from_residual.result c.from_residual.ensures.1 in
    rw (p.1, p.2, ← c.checked.ensures, c.in_err-checked.was)

pub returns : goal.returns
unfolding downsample_of
returns c =
    let fine = sym c.checked.ensures ∙ c.in_ok-checked.was in
    rw (fine, c.half-height.ensures, c.half-width.ensures)
    (halved_stored _ _ _ _ (checks_passed _ _ _ _ fine) (rw (c.half-height.ensures, c.half-width.ensures) at c.halve_level.ensures))
