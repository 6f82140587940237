-- `points` meets its contract.
use borrow.Author.Rules.{rules}
use Rattle.slots.proofs.ColumnLaws.{filled_by}
use Rattle.slots.proofs.points.Goals as goal

pub returns : goal.returns
returns c =
    filled_by c.args.set c.args.th c.requires.n_bound.1 (record { first = search rules; second = search rules; third = search rules; fourth = search rules; points = search rules; values = search rules; words = search rules })
    c.coef_line.ensures c.check_line.ensures c.stat_line.ensures c.stat_line-2.ensures c.window_of.ensures c.gate_line.ensures
