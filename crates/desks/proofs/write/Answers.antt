-- `write` meets its contract.
use Rattle.std.proofs.lemmas.Result.{err_from_is_err_and}
use mathlib.Core.Path.{sym, ◌∙◌}
use Rattle.tables.proofs.SetLaws.{good-long}
use Rattle.desks.specs.Table.{slot_of}
use Rattle.desks.specs.Desks.{Write, usable}
use Rattle.desks.proofs.CallLaws.{write_fine, usable_parts}
use Rattle.desks.proofs.CodeLaws.{refused-with, done-with, write_any}
use Rattle.desks.proofs.write.Goals as goal

pub write-requires-2 : goal.write-requires-2
write-requires-2 c =
    let a = c.args in
    let had = write_fine a.desk (usable a.desk a.slot a.table.now) (slot_of a.table.now a.slot) a.set.now (sym c.write.ensures ∙ c.in_ok-write.was) in
    record { at = (usable_parts a.desk a.slot a.table.now had.0.named).0; slot_bound = had.1; set_len = good-long a.set.now had.2 }

pub returns-in_err-write : goal.returns-in_err-write
returns-in_err-write c =
    let a = c.args in
    let p = err_from_is_err_and c.from_residual.result c.from_residual.ensures.1 in
    rw (p.1, p.2) (refused-with (Write a.set.now) a.table.now a.desk a.slot _ _ c.write.ensures c.in_err-write.was)

pub returns : goal.returns
returns c =
    let a = c.args in
    done-with (Write a.set.now) a.table.now a.desk a.slot _ _ c.write.ensures c.in_ok-write.was (c.write-2.ensures ∙ write_any a.set.now 0 a.desk a.slot a.table.now)
