-- `edge::values_at` meets its contract.
use Rattle.spatial.specs.Edge.{values_of}
use Rattle.spatial.proofs.edge.values_at.Goals as goal

pub returns : goal.returns
unfolding values_of
returns c = cc
