-- `own_lines` meets its contract.
use Rattle.slots.proofs.ColumnLaws.{filled_alike, lines_read}
use Rattle.slots.proofs.own_lines.Goals as goal

pub sample_line-requires : goal.sample_line-requires
sample_line-requires c = let start = c.requires in record { n_bound = start.n_bound.0; reach = start.reach.0.0 }

pub sample_line-requires-2 : goal.sample_line-requires-2
sample_line-requires-2 c = let start = c.requires in record { n_bound = start.n_bound.0; reach = start.reach.0.1 }

pub sample_line-requires-3 : goal.sample_line-requires-3
sample_line-requires-3 c = let start = c.requires in record { n_bound = start.n_bound.0; reach = start.reach.1.0 }

pub sample_line-requires-4 : goal.sample_line-requires-4
sample_line-requires-4 c = let start = c.requires in record { n_bound = start.n_bound.0; reach = start.reach.1.1 }

pub returns : goal.returns
returns c =
    filled_alike (lines_read c.args.set.sigmas (record { first = c.sample_line.ensures; second = c.sample_line-2.ensures; third = c.sample_line-3.ensures; fourth = c.sample_line-4.ensures })) c.points.ensures
