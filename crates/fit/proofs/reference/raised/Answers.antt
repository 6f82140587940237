use Rattle.fit.specs.Extrema.{raised_of}
use Rattle.fit.proofs.reference.raised.Goals as goal

pub returns : goal.returns
unfolding raised_of
returns c = rw (← c.horner-v.ensures, ← c.curvature-c.ensures, ← c.is_inside.ensures, ← c.is_finite.ensures, ← c.is_finite-2.ensures, ← c.put_high.ensures)
