-- `correct` meets its contract: only the arm that answers a size stores one.
use Rattle.std.specs.Prelude.{Result, ℕ, Float, ◌≡◌}
use Rattle.tables.specs.declared.Refusal.{Refusal}
use Rattle.face_correct.specs.Face.{size_number, size_cause, size_after, size_left, correct_face}
use Rattle.face_correct.proofs.correct.Goals as goal

-- what the face leaves of an answer
left-by : (a : Result Float Refusal) {r v : ℕ} {x : Float} (before : Float) → r ≡ size_number a → v ≡ size_cause a → x ≡ size_after a before
    → size_left r v x ≡ size_left (size_number a) (size_cause a) (size_after a before)
left-by a before p q e = rw (p, q, e)

pub returns-in-Ok : goal.returns-in-Ok
unfolding correct_face size_cause size_after
returns-in-Ok c =
    let call = c.correct-answer in
    rw (← c.read_or_blank-tables.ensures, ← call.ensures)
    (left-by call.result _ c.number_of-number.ensures (rw c.in-Ok.is) (rw c.in-Ok.is))

pub returns-in-Err : goal.returns-in-Err
unfolding correct_face size_cause size_after
returns-in-Err c =
    let call = c.correct-answer in
    rw (← c.read_or_blank-tables.ensures, ← call.ensures)
    (left-by call.result _ c.number_of-number.ensures (rw (c.in-Err.is, c.value_of.ensures)) (rw c.in-Err.is))
