-- `ends::survives` meets its contract.
use Rattle.rivals.specs.Ends.{survives_of}
use Rattle.rivals.proofs.ends.survives.Goals as goal

pub returns-then-is_ended : goal.returns-then-is_ended
unfolding survives_of
returns-then-is_ended c = rw (← c.neighbor_scale_band-band.ensures, ← c.sign_of.ensures, ← c.is_ended.ensures, c.if-is_ended.true)

pub returns : goal.returns
unfolding survives_of
returns c = rw (← c.neighbor_scale_band-band.ensures, ← c.sign_of.ensures, ← c.is_ended.ensures, c.if-is_ended.false, ← c.nine_cubics-nine.ensures, ← c.accepts.ensures)
