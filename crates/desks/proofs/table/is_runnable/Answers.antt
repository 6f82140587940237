-- `table::is_runnable` meets its contract.
use mathlib.Core.Path.{sym}
use Rattle.desks.proofs.CodeLaws.{wrong_length, past_slots, by-owner}
use Rattle.desks.proofs.table.is_runnable.Goals as goal

pub returns-then-t-ne4264 : goal.returns-then-t-ne4264
returns-then-t-ne4264 c = let a = c.args in sym (wrong_length a.t.now a.slot c.if-t-ne4264.true)

pub returns-then-slot-ge8 : goal.returns-then-slot-ge8
returns-then-slot-ge8 c = let a = c.args in sym (past_slots a.t.now a.slot c.if-t-ne4264.false c.if-slot-ge8.true)

pub returns : goal.returns
returns c = let a = c.args in by-owner a.t.now a.slot _ c.if-t-ne4264.false c.if-slot-ge8.false c.owner_of-owner.ensures
