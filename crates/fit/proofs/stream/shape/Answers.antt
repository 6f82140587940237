use Rattle.fit.specs.Envelope.{shape_by}
use Rattle.fit.proofs.stream.shape.Goals as goal

pub returns : goal.returns
unfolding shape_by
returns c = rw (← c.discriminant.ensures, ← c.max.ensures, ← c.sqrt.ensures, ← c.ends.ensures, ← c.turns.ensures)
