-- `view::pixel_at` meets its contract: no places after is the pixel's own.
use mathlib.Core.Path.{◌∙◌}
use native.Mathlib.Nat.{add-zero}
use Rattle.grid.specs.Grid.{pixel_at}
use Rattle.samples.proofs.view.pixel_at.Goals as goal

pub returns : goal.returns
unfolding pixel_at
returns c = c.float_after.ensures ∙ rw add-zero
