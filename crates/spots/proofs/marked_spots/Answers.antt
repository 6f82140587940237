-- `marked_spots` meets its contract.
use Rattle.record.proofs.LayoutLaws.{laid_none}
use Rattle.spots.proofs.marked_spots.Goals as goal

pub returns-then-mark-eq0 : goal.returns-then-mark-eq0
returns-then-mark-eq0 c = rw (c.requires.position_value c.if-mark-eq0.true) laid_none
