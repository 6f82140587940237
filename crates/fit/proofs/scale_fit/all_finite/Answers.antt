use Rattle.fit.specs.Band.{finite_cubic}
use Rattle.fit.proofs.scale_fit.all_finite.Goals as goal

pub returns : goal.returns
unfolding finite_cubic
returns c = rw (← c.is_finite.ensures, ← c.is_finite-2.ensures, ← c.is_finite-3.ensures, ← c.is_finite-4.ensures)
