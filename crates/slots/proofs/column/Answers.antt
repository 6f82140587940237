-- `column` meets its contract.
use Rattle.slots.proofs.ColumnLaws.{filled_alike, lines_read}
use Rattle.slots.proofs.column.Goals as goal

pub returns : goal.returns
returns c =
    filled_alike (lines_read c.args.set.sigmas c.log_lines.ensures) c.points.ensures
