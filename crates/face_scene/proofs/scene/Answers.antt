-- `scene` meets its contract.
use borrow.Author.Rules.{rules}
use Rattle.face_scene.specs.Face.{scene_face}
use Rattle.face_scene.proofs.FaceLaws.{scene_left-by}
use Rattle.face_scene.proofs.scene.Goals as goal

pub returns : goal.returns
unfolding scene_face
returns c =
    rw (← c.read_or_blank-tables.ensures)
    (scene_left-by c.number_of.ensures c.value_of.ensures c.scene-answer.ensures)
