-- `accept::is_placed` meets its contract.
use Rattle.sides.specs.Beside.{places_of}
use Rattle.sides.proofs.accept.is_placed.Goals as goal

pub returns : goal.returns
unfolding places_of
returns c = rw (c.denominator.ensures, c.abs.ensures, c.is_steep.ensures, c.is_nearby.ensures, c.is_nearby-2.ensures, c.delta_x-dx.ensures, c.delta_y-dy.ensures)
