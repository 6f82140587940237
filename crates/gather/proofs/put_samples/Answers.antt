-- `put_samples` meets its contract.
use borrow.Author.Rules.{rules}
use Rattle.gather.proofs.ListLaws.{lined_past, lined_here}
use Rattle.gather.proofs.put_samples.Goals as goal

pub returns-then-n-h : goal.returns-then-n-h
returns-then-n-h c = lined_past c.if-n-h.true (search rules)

pub returns : goal.returns
returns c =
    let a = c.args in
    lined_here a.l.now a.r.now a.left a.mid a.right a.square c.samples.result c.samples.ensures c.put.ensures (search rules)
