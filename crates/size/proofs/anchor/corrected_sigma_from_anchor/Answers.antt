-- `corrected_sigma_from_anchor` meets its contract.
use Rattle.size.specs.Correct.{corrected_by}
use Rattle.size.proofs.anchor.corrected_sigma_from_anchor.Goals as goal

pub returns-then-is_trusted : goal.returns-then-is_trusted
unfolding corrected_by
returns-then-is_trusted c = rw (← c.geometry_of-g.ensures, ← c.compute_geometry_poly_coeffs-k.ensures, ← c.place_of-t.ensures, ← c.derivative-d.ensures, ← c.curvature-c.ensures, ← c.is_trusted.ensures, c.if-is_trusted.true, ← c.profile_blend_beta-beta.ensures) c.moved.ensures

pub returns-else-is_trusted : goal.returns-else-is_trusted
unfolding corrected_by
returns-else-is_trusted c = rw (← c.geometry_of-g.ensures, ← c.compute_geometry_poly_coeffs-k.ensures, ← c.place_of-t.ensures, ← c.derivative-d.ensures, ← c.curvature-c.ensures, ← c.is_trusted.ensures, c.if-is_trusted.false)
