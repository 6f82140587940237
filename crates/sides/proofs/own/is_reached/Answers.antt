-- `own::is_reached` meets its contract.
use Rattle.sides.specs.Beside.{upright_of}
use Rattle.sides.proofs.own.is_reached.Goals as goal

pub returns : goal.returns
unfolding upright_of
returns c = rw (c.is_either-2.ensures, c.sign_of.ensures, c.is_either.ensures, c.neighbor_scale_band-band.ensures)
