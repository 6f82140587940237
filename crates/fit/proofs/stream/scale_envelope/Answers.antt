use Rattle.fit.specs.Envelope.{envelope_by}
use Rattle.fit.proofs.stream.scale_envelope.Goals as goal

pub returns : goal.returns
unfolding envelope_by
returns c = rw (← c.apply_cubic_transform.ensures, ← c.shape.ensures)
