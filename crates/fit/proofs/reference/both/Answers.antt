use Rattle.fit.specs.Envelope.{first_of, second_of}
use Rattle.fit.specs.Extrema.{both_of}
use Rattle.fit.proofs.reference.both.Goals as goal

pub returns-then-d : goal.returns-then-d
unfolding both_of first_of second_of
returns-then-d c = rw (← c.discriminant-d.ensures, c.if-d.true, ← c.sqrt-root.ensures, ← c.first_of.ensures, ← c.lowered-low.ensures, ← c.second_of.ensures, ← c.raised.ensures)

pub returns-else-d : goal.returns-else-d
unfolding both_of first_of second_of
returns-else-d c = rw (← c.discriminant-d.ensures, c.if-d.false)
