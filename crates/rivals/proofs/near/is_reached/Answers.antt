-- `near::is_reached` meets its contract.
use Rattle.rivals.specs.Near.{reached_of}
use Rattle.rivals.proofs.near.is_reached.Goals as goal

pub returns : goal.returns
unfolding reached_of
returns c = rw (c.is_three-2.ensures, c.is_either.ensures, c.is_three.ensures, c.neighbor_scale_band-band.ensures)
