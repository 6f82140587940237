-- `refine::refine_keypoint_2d` meets its contract.
use Rattle.refine.specs.Refine.{refine_by}
use borrow.Author.Tests.{not-true, not-false}
use Rattle.refine.proofs.refine.refine_keypoint_2d.Goals as goal

pub returns-then-not-passes_edge : goal.returns-then-not-passes_edge
unfolding refine_by
returns-then-not-passes_edge c = rw (← c.values_at-values.ensures, ← c.passes_edge.ensures, not-true c.passes_edge.result c.if-not-passes_edge.true-raw)

pub returns : goal.returns
unfolding refine_by
returns c = rw (← c.values_at-values.ensures, ← c.passes_edge.ensures, not-false c.passes_edge.result c.if-not-passes_edge.false-raw, ← c.get_q_scale_index-index.ensures, ← c.fit_spatial_quadratic.ensures) c.moved.ensures
