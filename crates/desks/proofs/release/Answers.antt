-- `release` meets its contract.
use Rattle.std.proofs.lemmas.Result.{err_from_is_err_and}
use mathlib.Core.Path.{sym, ◌∙◌}
use Rattle.desks.specs.Table.{slot_of}
use Rattle.desks.specs.Desks.{Release, usable}
use Rattle.desks.proofs.CallLaws.{release_fine, usable_parts}
use Rattle.desks.proofs.CodeLaws.{refused-with, done-with, release_part}
use Rattle.desks.proofs.release.Goals as goal

pub release-requires-2 : goal.release-requires-2
release-requires-2 c =
    let a = c.args in
    let had = release_fine a.desk (usable a.desk a.slot a.table.now) (slot_of a.table.now a.slot) (sym c.release.ensures ∙ c.in_ok-release.was) in
    (usable_parts a.desk a.slot a.table.now had.named).0

pub returns-in_err-release : goal.returns-in_err-release
returns-in_err-release c =
    let a = c.args in
    let p = err_from_is_err_and c.from_residual.result c.from_residual.ensures.1 in
    rw (p.1, p.2) (refused-with Release a.table.now a.desk a.slot _ _ c.release.ensures c.in_err-release.was)

pub returns : goal.returns
returns c =
    let a = c.args in
    done-with Release a.table.now a.desk a.slot _ _ c.release.ensures c.in_ok-release.was (c.release-2.ensures ∙ release_part a.desk a.slot a.table.now)
