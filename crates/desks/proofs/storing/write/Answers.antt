-- `storing::write` meets its contract.
use Rattle.desks.proofs.CodeLaws.{write_parts}
use Rattle.desks.proofs.storing.write.Goals as goal

pub returns : goal.returns
returns c =
    let a = c.args in
    write_parts a.t.now c.put_first.new.out _ a.set.now a.slot _ c.requires.set_len c.count_of-count.ensures c.put_first.ensures c.put_count.ensures
