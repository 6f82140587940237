-- `record::put_old` meets its contract. Assumes nothing.
use Rattle.record.proofs.LayoutLaws.{old_bytes_parts}
use Rattle.record.proofs.put_old.Goals as goal

pub returns : goal.returns
returns c =
    old_bytes_parts _ c.args.at c.args.r c.put_floats.ensures c.put_floats-2.ensures c.put_word.ensures c.put_bytes.ensures
