-- `profile_blend_beta` meets its contract.
use Rattle.size.specs.Correct.{blend_beta_by}
use Rattle.size.proofs.anchor.profile_blend_beta.Goals as goal

pub returns : goal.returns
unfolding blend_beta_by
returns c = rw (← c.profile_compatibility_statistic.ensures, ← c.profile_beta_from_statistic.ensures)
