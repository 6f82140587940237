-- `side::is_beside` meets its contract.
use Rattle.sides.specs.Beside.{beside_of}
use Rattle.sides.proofs.side.is_beside.Goals as goal

pub returns : goal.returns
unfolding beside_of
returns c = rw (c.is_three-2.ensures, c.is_three.ensures, c.neighbor_scale_band-band.ensures, c.sign_of-sign.ensures)
