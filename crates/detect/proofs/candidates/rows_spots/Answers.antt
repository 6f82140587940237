-- `candidates::rows_spots` meets its contract.
use Rattle.std.proofs.Common.{rules}
use Rattle.detect.specs.Due.{due}
use Rattle.detect.proofs.candidates.rows_spots.Goals as goal

pub returns : goal.returns
unfolding due
returns c = let p = c.walk.ensures.0 in search rules
