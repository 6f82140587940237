-- `pixel_spots` meets its contract.
use Rattle.ring.specs.Ring.{pixel_spots}
use Rattle.spots.proofs.pixel_spots.Goals as goal

pub returns : goal.returns
unfolding pixel_spots
returns c = rw (← c.nine_at-nine.ensures) c.lay_listing.ensures
