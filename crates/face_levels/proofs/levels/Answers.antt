-- `levels` meets its contract.
use Rattle.face_levels.specs.Face.{levels_face}
use Rattle.face_levels.proofs.FaceLaws.{levels_left-by}
use Rattle.face_levels.proofs.levels.Goals as goal

pub returns : goal.returns
unfolding levels_face
returns c =
    rw (← c.read_or_blank-tables.ensures)
    (levels_left-by {a = c.levels-answer.result} c.number_of.ensures c.levels-answer.ensures)
