-- `lay_listing` meets its contract: what is laid is the pixel's listing.
use Rattle.pixel.specs.Listed.{both_listed}
use Rattle.listing.proofs.lay_listing.Goals as goal

pub returns : goal.returns
unfolding both_listed
returns c =
    let both = c.listing.ensures in
    rw (← both.0, ← both.1) c.lay_both.ensures
