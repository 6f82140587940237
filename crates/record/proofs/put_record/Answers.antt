-- `record::put_record` meets its contract. Assumes nothing.
use Rattle.record.proofs.LayoutLaws.{record_bytes_parts}
use Rattle.record.proofs.put_record.Goals as goal

pub returns : goal.returns
returns c =
    record_bytes_parts _ c.args.at c.args.r c.put_old.ensures c.put_float.ensures c.put_float-2.ensures
