use Rattle.fit.specs.Envelope.{first_of}
use Rattle.fit.specs.Extrema.{extrema_of}
use Rattle.fit.proofs.reference.polynomial_extrema.Goals as goal

pub returns-then-is_cubic : goal.returns-then-is_cubic
unfolding extrema_of first_of
returns-then-is_cubic c = rw (← c.ends-e.ensures, ← c.is_cubic.ensures, c.if-is_cubic.true, ← c.both.ensures)

pub returns-then-is_quadratic : goal.returns-then-is_quadratic
unfolding extrema_of first_of
returns-then-is_quadratic c = rw (← c.ends-e.ensures, ← c.is_cubic.ensures, c.if-is_cubic.false, ← c.is_quadratic.ensures, c.if-is_quadratic.true, ← c.first_of.ensures, ← c.single.ensures)

pub returns : goal.returns
unfolding extrema_of first_of
returns c = rw (← c.ends-e.ensures, ← c.is_cubic.ensures, c.if-is_cubic.false, ← c.is_quadratic.ensures, c.if-is_quadratic.false)
