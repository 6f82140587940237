use Rattle.fit.specs.Cubic.{coeffs_of}
use Rattle.fit.proofs.scale_fit.apply_cubic_transform.Goals as goal

pub returns : goal.returns
unfolding coeffs_of
returns c = rw (← c.row.ensures, ← c.row-2.ensures, ← c.row-3.ensures, ← c.row-4.ensures)
