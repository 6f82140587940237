use Rattle.fit.specs.Extrema.{lowered_of}
use Rattle.fit.proofs.reference.lowered.Goals as goal

pub returns : goal.returns
unfolding lowered_of
returns c = rw (← c.horner-v.ensures, ← c.curvature-c.ensures, ← c.is_inside.ensures, ← c.is_finite.ensures, ← c.is_finite-2.ensures, ← c.put_low.ensures)
