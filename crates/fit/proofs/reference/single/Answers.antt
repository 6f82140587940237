use Rattle.fit.specs.Extrema.{single_of}
use Rattle.fit.proofs.reference.single.Goals as goal

pub returns-then-is_inside-is_finite : goal.returns-then-is_inside-is_finite
unfolding single_of
returns-then-is_inside-is_finite c = rw (← c.horner-v.ensures, ← c.curvature-c.ensures, ← c.put_low-low.ensures, ← c.is_inside.ensures, ← c.is_finite.ensures, ← c.is_finite-2.ensures, c.if-is_inside-is_finite.true, ← c.put_high.ensures)

pub returns-else-is_inside-is_finite : goal.returns-else-is_inside-is_finite
unfolding single_of
returns-else-is_inside-is_finite c = rw (← c.horner-v.ensures, ← c.curvature-c.ensures, ← c.put_low-low.ensures, ← c.is_inside.ensures, ← c.is_finite.ensures, ← c.is_finite-2.ensures, c.if-is_inside-is_finite.false)
