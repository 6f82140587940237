-- `count` meets its contract.
use mathlib.Core.Path.{refl, ◌∙◌}
use native.Mathlib.Nat.{zero-add}
use Rattle.spots.proofs.count.Goals as goal

pub slice_bounds-column_spots-end : goal.slice_bounds-column_spots-end
slice_bounds-column_spots-end c = refl

pub returns : goal.returns
returns c = c.column_spots.ensures.count ∙ zero-add _
