-- `claim` meets its contract.
use borrow.Author.Rules.{rules}
use Rattle.face_desks.specs.Face.{call_face}
use Rattle.face_desks.proofs.FaceLaws.{table-left-by}
use Rattle.face_desks.proofs.claim.Goals as goal

pub returns : goal.returns
unfolding call_face
returns c = table-left-by c.number_of.ensures c.claim-told.ensures
