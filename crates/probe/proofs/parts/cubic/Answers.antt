-- `parts::cubic` meets its contract.
use borrow.Author.Rules.{rules}
use Rattle.probe.proofs.parts.cubic.Goals as goal

pub returns-then-geometry : goal.returns-then-geometry
returns-then-geometry c = rw c.if-geometry.true c.compute_geometry_poly_coeffs.ensures

pub returns-else-geometry : goal.returns-else-geometry
returns-else-geometry c = rw c.if-geometry.false c.compute_poly_coeffs.ensures
