-- `join_old` meets its contract.
use Rattle.face_join.specs.Face.{join_old_face}
use Rattle.face_join.proofs.FaceLaws.{join_left-by}
use Rattle.face_join.proofs.join_old.Goals as goal

pub returns : goal.returns
unfolding join_old_face
returns c =
    rw (← c.read_or_blank-held.ensures)
    (join_left-by c.number_of.ensures c.value_of.ensures c.join_old-answer.ensures)
