use Rattle.fit.specs.Envelope.{first_of, second_of}
use Rattle.fit.specs.Band.{stationary_of}
use Rattle.fit.proofs.scale_fit.stationary.Goals as goal

pub returns-then-d : goal.returns-then-d
unfolding stationary_of first_of second_of
returns-then-d c = rw (← c.is_cubic.ensures, c.if-is_cubic.true, ← c.discriminant-d.ensures, c.if-d.true, ← c.sign_of.ensures, ← c.sqrt.ensures, ← c.second_of.ensures)

pub returns-then-is_cubic : goal.returns-then-is_cubic
unfolding stationary_of first_of second_of
returns-then-is_cubic c = rw (← c.is_cubic.ensures, c.if-is_cubic.true, ← c.discriminant-d.ensures, c.if-d.false)

pub returns-then-is_quadratic-opens : goal.returns-then-is_quadratic-opens
unfolding stationary_of first_of second_of
returns-then-is_quadratic-opens c = rw (← c.is_cubic.ensures, c.if-is_cubic.false, ← c.is_quadratic.ensures, ← c.opens.ensures, c.if-is_quadratic-opens.true, ← c.first_of.ensures)

pub returns : goal.returns
unfolding stationary_of first_of second_of
returns c = rw (← c.is_cubic.ensures, c.if-is_cubic.false, ← c.is_quadratic.ensures, ← c.opens.ensures, c.if-is_quadratic-opens.false)
