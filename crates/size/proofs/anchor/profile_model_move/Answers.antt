-- `profile_model_move` meets its contract.
use Rattle.size.specs.Correct.{model_move_of}
use Rattle.size.proofs.anchor.profile_model_move.Goals as goal

pub returns-then-w-is_finite : goal.returns-then-w-is_finite
unfolding model_move_of
returns-then-w-is_finite c = rw (← c.weight-w.ensures, ← c.is_finite.ensures, c.if-w-is_finite.true)

pub returns-else-w-is_finite : goal.returns-else-w-is_finite
unfolding model_move_of
returns-else-w-is_finite c = rw (← c.weight-w.ensures, ← c.is_finite.ensures, c.if-w-is_finite.false, ← c.model.ensures) c.proposal.ensures
