use Rattle.fit.specs.Envelope.{turns_of}
use Rattle.fit.proofs.stream.turns.Goals as goal

pub returns : goal.returns
unfolding turns_of
returns c = rw (← c.is_cubic-cubic.ensures, ← c.is_quadratic.ensures, ← c.discriminant.ensures, ← c.first_of-first.ensures, ← c.second_of-second.ensures, ← c.is_inside.ensures, ← c.is_inside-2.ensures, ← c.turn-one.ensures, ← c.turn.ensures)
