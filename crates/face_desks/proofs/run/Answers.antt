-- `run` meets its contract.
use borrow.Author.Rules.{rules}
use Rattle.face_detect.proofs.FaceLaws.{left_by_lem}
use Rattle.face_desks.specs.Face.{run_face}
use Rattle.face_desks.proofs.run.Goals as goal

pub returns : goal.returns
unfolding run_face
returns c = left_by_lem c.number_of.ensures c.value_of.ensures c.run-answer.ensures
