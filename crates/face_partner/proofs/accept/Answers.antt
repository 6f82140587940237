-- `accept` meets its contract.
use mathlib.Core.Path.{ap, ◌∙◌}
use Rattle.face_partner.specs.Face.{reply_told, accept_face}
use borrow.Author.Rules.{rules}
use Rattle.face_partner.proofs.accept.Goals as goal

pub returns : goal.returns
unfolding accept_face
returns c = rw (← c.read_or_blank-tables.ensures) (c.reply_told-told.ensures ∙ ap reply_told c.accept-reply.ensures)
