-- `ring::beats` meets its contract.
use Rattle.pixel.specs.Ring.{beats_cubic}
use Rattle.pixel.proofs.ring.beats.Goals as goal

pub returns-then-is_max : goal.returns-then-is_max
unfolding beats_cubic
returns-then-is_max c = rw (← c.band_extreme-extreme.ensures, c.if-is_max.true)

pub returns-else-is_max : goal.returns-else-is_max
unfolding beats_cubic
returns-else-is_max c = rw (← c.band_extreme-extreme.ensures, c.if-is_max.false)
