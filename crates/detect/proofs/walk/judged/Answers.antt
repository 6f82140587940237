-- `walk::judged` meets its contract: what is taken is what the pixel lists.
use Rattle.samples.specs.Map.{maps_in}
use Rattle.pixel.specs.Listed.{both_listed}
use Rattle.detect.proofs.DueLaws.{pixel_both}
use Rattle.detect.proofs.walk.judged.Goals as goal

pub returns : goal.returns
unfolding both_listed
returns g c =
    let a = c.args in
    let m = maps_in a.map.now in
    let both = c.listing.ensures in
    rw (pixel_both m a.row a.col, ← c.nine_at-nine.ensures, ← both.0, ← both.1) c.take.ensures
