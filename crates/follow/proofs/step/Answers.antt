-- `step` meets its contract.
use mathlib.Core.Path.{◌∙◌}
use Rattle.follow.specs.Follow.{step_of}
use Rattle.follow.proofs.step.Goals as goal

pub returns : goal.returns
unfolding step_of
returns c = c.meet.ensures ∙ rw (c.in_ok-w.was)

pub returns-in_err-w : goal.returns-in_err-w
unfolding step_of
returns-in_err-w c = c.from_residual.ensures ∙ rw (c.in_err-w.was)
