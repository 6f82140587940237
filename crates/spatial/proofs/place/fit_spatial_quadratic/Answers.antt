-- `place::fit_spatial_quadratic` meets its contract.
use Rattle.spatial.specs.Place.{spatial_by}
use Rattle.spatial.proofs.FitSteps.{row_ordered}
use mathlib.Core.Path.{◌∙◌}
use Rattle.spatial.proofs.place.fit_spatial_quadratic.Goals as goal

pub returns : goal.returns
unfolding spatial_by
returns c =
    let row = row_ordered c.args.set c.args.values c.ordered-v.result c.args.index c.block_of-block.result c.block_of-block.ensures.0 c.ordered-v.ensures in
    rw (c.row_sum-5.ensures ∙ row 4, c.row_sum-4.ensures ∙ row 3, c.row_sum-3.ensures ∙ row 2, c.row_sum-2.ensures ∙ row 1, c.row_sum.ensures ∙ row 0)
