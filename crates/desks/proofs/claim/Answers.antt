-- `claim` meets its contract.
use Rattle.std.proofs.lemmas.Result.{err_from_is_err_and}
use mathlib.Core.Path.{sym, ◌∙◌}
use Rattle.desks.specs.Table.{slot_of}
use Rattle.desks.specs.Desks.{Claim, usable}
use Rattle.desks.proofs.CallLaws.{claim_fine, usable_parts, desk_small}
use Rattle.desks.proofs.CodeLaws.{refused-with, done-with}
use Rattle.desks.proofs.claim.Goals as goal

pub claim-requires-2 : goal.claim-requires-2
claim-requires-2 c =
    let a = c.args in
    let had = claim_fine a.desk (usable a.desk a.slot a.table.now) (slot_of a.table.now a.slot) (sym c.claim.ensures ∙ c.in_ok-claim.was) in
    let named = usable_parts a.desk a.slot a.table.now had.0.named in
    record { at = named.0; slot_bound = had.1; desk_bound = (desk_small a.desk named.1).1 }

pub returns-in_err-claim : goal.returns-in_err-claim
returns-in_err-claim c =
    let a = c.args in
    let p = err_from_is_err_and c.from_residual.result c.from_residual.ensures.1 in
    rw (p.1, p.2) (refused-with Claim a.table.now a.desk a.slot _ _ c.claim.ensures c.in_err-claim.was)

pub returns : goal.returns
returns c =
    let a = c.args in
    done-with Claim a.table.now a.desk a.slot _ _ c.claim.ensures c.in_ok-claim.was c.claim-2.ensures
