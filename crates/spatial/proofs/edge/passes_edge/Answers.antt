-- `edge::passes_edge` meets its contract.
use Rattle.spatial.specs.Edge.{edge_of}
use Rattle.spatial.proofs.edge.passes_edge.Goals as goal

pub returns : goal.returns
unfolding edge_of
returns c = rw (c.is_finite-6.ensures, c.bends.ensures, c.is_finite-5.ensures, c.is_finite-4.ensures, c.is_finite-3.ensures, c.is_finite-2.ensures, c.is_finite.ensures)
