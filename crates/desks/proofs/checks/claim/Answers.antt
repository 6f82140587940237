-- `checks::claim` meets its contract.
use mathlib.Core.Path.{sym, ◌∙◌}
use lib.Dec.{eqb}
use Rattle.float.proofs.Bools.{both}
use Rattle.desks.specs.Table.{slot_of}
use Rattle.desks.specs.Desks.{Claim, usable, needed}
use Rattle.desks.proofs.CallLaws.{usable_parts, not-owned}
use Rattle.desks.proofs.CodeLaws.{claim_full, claim_passes}
use Rattle.desks.proofs.checks.claim.Goals as goal

pub returns-then-not-is_owned : goal.returns-then-not-is_owned
unfolding needed
returns-then-not-is_owned c =
    let a = c.args in
    sym (not-owned a.desk (usable a.desk a.slot a.t.now) (slot_of a.t.now a.slot) Claim (sym c.is_owned.ensures ∙ c.if-not-is_owned.true))

pub is_full-requires : goal.is_full-requires
unfolding needed
is_full-requires c =
    let a = c.args in
    (usable_parts a.desk a.slot a.t.now (both (usable a.desk a.slot a.t.now) (eqb (slot_of a.t.now a.slot).owner 0) (sym c.is_owned.ensures ∙ c.if-not-is_owned.false)).0).0

pub returns-then-is_full : goal.returns-then-is_full
unfolding needed
returns-then-is_full c =
    let a = c.args in
    sym (claim_full a.desk (usable a.desk a.slot a.t.now) (slot_of a.t.now a.slot) (sym c.is_owned.ensures ∙ c.if-not-is_owned.false) (sym c.is_full.ensures ∙ c.if-is_full.true))

pub returns : goal.returns
unfolding needed
returns c =
    let a = c.args in
    sym (claim_passes a.desk (usable a.desk a.slot a.t.now) (slot_of a.t.now a.slot) (sym c.is_owned.ensures ∙ c.if-not-is_owned.false) (sym c.is_full.ensures ∙ c.if-is_full.false))
