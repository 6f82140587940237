-- `close_up` meets its contract.
use Rattle.face_store.specs.Face.{stored_packed, store_face}
use Rattle.face_store.proofs.FaceLaws.{store_left-by}
use Rattle.face_store.proofs.close_up.Goals as goal

pub returns : goal.returns
unfolding store_face stored_packed
returns c = store_left-by c.number_of.ensures c.value_of.ensures c.close_up-answer.ensures
