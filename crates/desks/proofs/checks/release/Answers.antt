-- `checks::release` meets its contract.
use mathlib.Core.Path.{sym, ◌∙◌}
use Rattle.desks.specs.Table.{slot_of}
use Rattle.desks.specs.Desks.{Release, usable, needed}
use Rattle.desks.proofs.CallLaws.{not-owned}
use Rattle.desks.proofs.CodeLaws.{release_passes}
use Rattle.desks.proofs.checks.release.Goals as goal

pub returns-then-not-is_owned : goal.returns-then-not-is_owned
unfolding needed
returns-then-not-is_owned c =
    let a = c.args in
    sym (not-owned a.desk (usable a.desk a.slot a.t.now) (slot_of a.t.now a.slot) Release (sym c.is_owned.ensures ∙ c.if-not-is_owned.true))

pub returns : goal.returns
unfolding needed
returns c =
    let a = c.args in
    sym (release_passes a.desk (usable a.desk a.slot a.t.now) (slot_of a.t.now a.slot) (sym c.is_owned.ensures ∙ c.if-not-is_owned.false))
