-- `checks::write` meets its contract.
use mathlib.Core.Path.{sym, ◌∙◌}
use lib.Dec.{eqb}
use Rattle.float.proofs.Bools.{both}
use Rattle.desks.specs.Table.{slot_of}
use Rattle.desks.specs.Desks.{Write, usable, needed}
use Rattle.desks.proofs.CallLaws.{usable_parts, not-owned}
use Rattle.desks.proofs.CodeLaws.{write_full, write_bad, write_passes}
use Rattle.desks.proofs.checks.write.Goals as goal

pub returns-then-not-mine : goal.returns-then-not-mine
unfolding needed
returns-then-not-mine c =
    let a = c.args in
    sym (not-owned a.desk (usable a.desk a.slot a.t.now) (slot_of a.t.now a.slot) (Write a.set.now) (sym c.is_owned-mine.ensures ∙ c.if-not-mine.true))

pub is_full-full-requires : goal.is_full-full-requires
unfolding needed
is_full-full-requires c =
    let a = c.args in
    (usable_parts a.desk a.slot a.t.now (both (usable a.desk a.slot a.t.now) (eqb (slot_of a.t.now a.slot).owner a.desk) (sym c.is_owned-mine.ensures ∙ c.if-not-mine.false)).0).0

pub returns-then-full : goal.returns-then-full
unfolding needed
returns-then-full c =
    let a = c.args in
    sym (write_full a.desk (usable a.desk a.slot a.t.now) (slot_of a.t.now a.slot) a.set.now (sym c.is_owned-mine.ensures ∙ c.if-not-mine.false) (sym c.is_full-full.ensures ∙ c.if-full.true))

pub returns-then-not-good : goal.returns-then-not-good
unfolding needed
returns-then-not-good c =
    let a = c.args in
    sym (write_bad a.desk (usable a.desk a.slot a.t.now) (slot_of a.t.now a.slot) a.set.now (sym c.is_owned-mine.ensures ∙ c.if-not-mine.false) (sym c.is_full-full.ensures ∙ c.if-full.false) (sym c.is_good_record-good.ensures ∙ c.if-not-good.true))

pub returns : goal.returns
unfolding needed
returns c =
    let a = c.args in
    sym (write_passes a.desk (usable a.desk a.slot a.t.now) (slot_of a.t.now a.slot) a.set.now (sym c.is_owned-mine.ensures ∙ c.if-not-mine.false) (sym c.is_full-full.ensures ∙ c.if-full.false) (sym c.is_good_record-good.ensures ∙ c.if-not-good.false))
