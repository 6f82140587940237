-- `accept::accepts` meets its contract.
use borrow.Author.Tests.{not-true, not-false}
use Rattle.sides.proofs.AcceptLaws.{accepted-by}
use Rattle.sides.proofs.accept.accepts.Goals as goal

pub returns-then-not-passes_edge : goal.returns-then-not-passes_edge
returns-then-not-passes_edge c =
    let a = c.args in
    rw (accepted-by a.set a.ratio a.k.now a.sigma _, ← c.values_at-values.ensures, ← c.passes_edge.ensures, not-true c.passes_edge.result c.if-not-passes_edge.true-raw)

pub returns : goal.returns
returns c =
    let a = c.args in
    rw (
      accepted-by a.set a.ratio a.k.now a.sigma _,
      ← c.values_at-values.ensures,
      ← c.passes_edge.ensures,
      not-false c.passes_edge.result c.if-not-passes_edge.false-raw,
      ← c.get_q_scale_index-index.ensures,
      ← c.fit_spatial_quadratic.ensures,
    ) c.is_placed.ensures
