use Rattle.fit.specs.Envelope.{ends_by}
use Rattle.fit.proofs.stream.ends.Goals as goal

pub returns : goal.returns
unfolding ends_by
returns c = rw (← c.min.ensures, ← c.max.ensures)
