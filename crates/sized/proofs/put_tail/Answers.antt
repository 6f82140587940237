-- `put_tail` meets its contract.
use Rattle.sized.proofs.SizedLaws.{tail_parts}
use Rattle.sized.proofs.put_tail.Goals as goal

pub returns : goal.returns
returns c =
    let a = c.args in
    tail_parts _ a.at a.size a.home c.given_sigma.ensures c.accepted_of.ensures c.missing_of.ensures c.put_float.ensures c.put_half.ensures c.put_half-2.ensures c.put_bytes.ensures
