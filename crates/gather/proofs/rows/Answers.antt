-- `rows` meets its contract.
use Rattle.gather.proofs.StepLaws.{each-listed}
use Rattle.gather.proofs.rows.Goals as goal

pub returns : goal.returns
returns c = each-listed _ c.row.ensures c.row-2.ensures c.row-3.ensures c.row-4.ensures
