-- `reply_told` meets its contract.
use Rattle.face_partner.specs.Face.{reply_told}
use borrow.Author.Rules.{rules}
use Rattle.face_partner.proofs.reply_told.Goals as goal

pub returns-in-Ok : goal.returns-in-Ok
unfolding reply_told
returns-in-Ok c = rw c.in-Ok.is c.found_told.ensures

pub returns-in-Err : goal.returns-in-Err
unfolding reply_told
returns-in-Err c = rw (c.in-Err.is, ← c.from.ensures, ← c.value_of.ensures)
