-- `pad` meets its contract.
use native.Mathlib.Omega.{arith}
use Rattle.grid.proofs.StoredLaws.{stored-length}
use Rattle.lines.proofs.LineLaws.{padding}
use Rattle.lines.proofs.pad.Goals as goal

pub repeat-requires-2 : goal.repeat-requires-2
repeat-requires-2 c = omega (arith, stored-length c.repeat.ensures, c.requires)

pub returns : goal.returns
returns c = let p = c.requires in padding _ p.le_n.0 p.le_n.1 p.line_len c.repeat.ensures c.repeat-2.ensures
