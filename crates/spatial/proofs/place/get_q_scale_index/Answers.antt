-- `place::get_q_scale_index` meets its contract.
use Rattle.spatial.specs.Place.{index_of}
use Rattle.spatial.proofs.place.get_q_scale_index.Goals as goal

pub returns-then-sigma-sigmas : goal.returns-then-sigma-sigmas
unfolding index_of
returns-then-sigma-sigmas c = rw c.if-sigma-sigmas.true

pub returns-else-sigma-sigmas : goal.returns-else-sigma-sigmas
unfolding index_of
returns-else-sigma-sigmas c = rw c.if-sigma-sigmas.false
