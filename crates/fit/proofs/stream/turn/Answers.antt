use Rattle.fit.specs.Envelope.{turn_of}
use Rattle.fit.proofs.stream.turn.Goals as goal

pub returns : goal.returns
unfolding turn_of
returns c = rw (← c.horner-value.ensures, ← c.curvature-c.ensures, ← c.is_finite.ensures, ← c.is_finite-2.ensures, ← c.curves.ensures, ← c.put_low-low.ensures, ← c.put_high.ensures)
