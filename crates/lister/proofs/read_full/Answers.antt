-- `read_full` meets its contract.
use Rattle.std.proofs.Common.{rules}
use Rattle.std.proofs.lemmas.Slice.{overwrites}
use Rattle.lister.proofs.ReadLaws.{consumes_next}
use Rattle.lister.proofs.read_full.Goals as goal

pub loop-done-preserved : goal.loop-done-preserved
loop-done-preserved g c =
    let l = c.loop-done in
    let e = c.in_ok-n.ensures in
    (search (rules, overwrites), search (rules, overwrites), consumes_next _ _ _ l.done _ _ l.buf c.read.new.buf l.invariant.0 e.bound.0 l.invariant.2 e.bytes.0)
