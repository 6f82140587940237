-- `storing::claim` meets its contract.
use Prim.Native.Nat.{◌+◌}
use mathlib.Core.Path.{◌∙◌}
use lib.ListN.{length-set}
use Rattle.desks.specs.Desks.{zeros}
use Rattle.desks.proofs.CodeLaws.{claim_parts}
use Rattle.desks.proofs.storing.claim.Goals as goal

pub put_count-requires : goal.put_count-requires
put_count-requires c =
    let a = c.args in
    let at = c.requires.at in
    record {
      long = length-set c.put_first.new.out (4224 + a.slot) a.desk ∙ c.put_first.auto.out ∙ at.long;
      inside = at.inside;
    }

pub shape_of-t : goal.shape_of-t
shape_of-t c =
    let a = c.args in
    c.put_count.auto.t ∙ length-set c.put_first.new.out (4224 + a.slot) a.desk ∙ c.put_first.auto.out

pub returns : goal.returns
unfolding zeros
returns c =
    let a = c.args in
    claim_parts a.t.now c.put_first.new.out _ a.desk a.slot _ c.count_of-count.ensures c.put_first.ensures c.put_count.ensures
