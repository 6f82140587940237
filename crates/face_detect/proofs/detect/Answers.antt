-- `detect` meets its contract.
use Rattle.face_detect.specs.Face.{detect_face}
use Rattle.face_detect.proofs.FaceLaws.{left_by_lem}
use Rattle.face_detect.proofs.detect.Goals as goal

pub returns : goal.returns
unfolding detect_face
returns c =
    rw (← c.read_or_blank-tables.ensures)
    (left_by_lem c.number_of.ensures c.value_of.ensures c.detect-answer.ensures)
