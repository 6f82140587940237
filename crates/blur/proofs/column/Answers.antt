-- `column` meets its contract.
use native.Mathlib.Omega.{arith}
use Rattle.blur.proofs.PassLaws.{stored_same, column_inside, map-most, column_is}
use Rattle.blur.proofs.column.Goals as goal

pub overflow_mul-at : goal.overflow_mul-at
overflow_mul-at c = let m = c.requires.map in omega (arith, map-most m, column_inside m _ m.inside)

pub finish-requires : goal.finish-requires
finish-requires c =
    let p = c.requires in
    record { le_rows = (p.map.tall, p.map.rows-most); radius_bound = p.radii.first; line_len = c.both.ensures.0.long; rows_in_bounds = omega (arith, column_inside p.map _ p.map.inside, p.map.long, p.cols_in_bounds.0) }

pub finish-requires-2 : goal.finish-requires-2
finish-requires-2 c =
    let p = c.requires in
    record { le_rows = (p.map.tall, p.map.rows-most); radius_bound = p.radii.second; line_len = c.both.ensures.1.long; rows_in_bounds = omega (arith, column_inside p.map _ p.map.inside, p.map.long, p.cols_in_bounds.1) }

pub returns : goal.returns
returns c =
    let lines = c.both.ensures in
    let first = c.finish.ensures in
    let second = c.finish-2.ensures in
    record {
      a_long = first.0;
      b_long = second.0;
      first = stored_same _ _ first.1 (column_is _ _ _ _ _ lines.0);
      second = stored_same _ _ second.1 (column_is _ _ _ _ _ lines.1);
    }
