-- `moved` meets its contract.
use Rattle.size.specs.Correct.{moved_of}
use Rattle.size.proofs.anchor.moved.Goals as goal

pub returns-then-is_in_range : goal.returns-then-is_in_range
unfolding moved_of
returns-then-is_in_range c = rw (← c.profile_bounded_move-step.ensures, ← c.sigma_at-sigma.ensures, ← c.is_in_range.ensures, c.if-is_in_range.true, ← c.profile_model_move-model.ensures, ← c.chosen.ensures)

pub returns-else-is_in_range : goal.returns-else-is_in_range
unfolding moved_of
returns-else-is_in_range c = rw (← c.profile_bounded_move-step.ensures, ← c.sigma_at-sigma.ensures, ← c.is_in_range.ensures, c.if-is_in_range.false)
