use Rattle.fit.specs.Band.{band_by}
use Rattle.fit.proofs.scale_fit.neighbor_scale_band.Goals as goal

pub returns : goal.returns
unfolding band_by
returns c = rw (← c.max.ensures, ← c.min.ensures)
