-- `profile_bounded_move` meets its contract.
use Rattle.size.specs.Correct.{bounded_of}
use Rattle.size.proofs.anchor.profile_bounded_move.Goals as goal

pub returns : goal.returns
unfolding bounded_of
returns c = rw (← c.clamp.ensures)
