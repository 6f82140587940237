-- `downsample` meets its contract: only the arm that answers sides stores them.
use Rattle.face_halve.specs.Face.{rows_after, cols_after, downsample_face}
use Rattle.face_halve.proofs.FaceLaws.{halved_left-by}
use Rattle.face_halve.proofs.downsample.Goals as goal
use Rattle.face_halve.proofs.downsample.Goals.{in-Ok, in_default}

pub returns : goal.returns
unfolding downsample_face rows_after cols_after
returns c =
    let call = c.downsample-answer in
    elim c.match-answer.branch [
      | in-Ok w ↦ halved_left-by {a = call.result} _ _ c.number_of.ensures (rw (w.halfrows-is, w.in-Ok.is)) (rw (w.halfcols-is, w.in-Ok.is)) call.ensures
      | in_default w ↦ halved_left-by {a = call.result} _ _ c.number_of.ensures (rw (w.halfrows-is, w.in_default.is)) (rw (w.halfcols-is, w.in_default.is)) call.ensures
    ]
