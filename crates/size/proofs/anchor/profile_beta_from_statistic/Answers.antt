-- `profile_beta_from_statistic` meets its contract.
use Rattle.size.specs.Correct.{beta_of}
use Rattle.size.proofs.anchor.profile_beta_from_statistic.Goals as goal

pub returns-in-Ok : goal.returns-in-Ok
unfolding beta_of
returns-in-Ok c = rw c.in-Ok.is c.blend.ensures

pub returns-in-Err : goal.returns-in-Err
unfolding beta_of
returns-in-Err c = rw c.in-Err.is
