-- `value_of` meets its contract.
use Rattle.std.proofs.Common.{rules}
use Rattle.face_scene.specs.Face.{scene_packed}
use Rattle.face_scene.proofs.value_of.Goals as goal

pub returns-in-Ok-Found : goal.returns-in-Ok-Found
unfolding scene_packed
returns-in-Ok-Found c = search rules

pub returns-in-Ok-Full : goal.returns-in-Ok-Full
unfolding scene_packed
returns-in-Ok-Full c = search rules

pub returns-in-Err : goal.returns-in-Err
unfolding scene_packed
returns-in-Err c = search rules
