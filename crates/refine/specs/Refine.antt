-- The refinement: edge rejection and the place between pixels, from nine cubics by position. Definitions only.
use Rattle.std.specs.Prelude.{ℕ, List, cond, ◌&&◌, Float, Option, Some, None}
use Rattle.std.specs.Float.Ieee.{lt}
use Rattle.float.specs.Small.{abs_of}
use Rattle.float.specs.Num.{◌⊕◌, f1e_10}
use Rattle.tables.specs.declared.Set.{Set}
use Rattle.fit.specs.Cubic.{◌at◌}
use Rattle.fit.specs.Prims.{Prims, ours}
unfoldable pub use Rattle.spatial.specs.Edge.{value_of, values_of, edge_of}
unfoldable pub use Rattle.spatial.specs.Place.{index_of, sum_from, block_of, term_of, row_sum_by, spatial_by, denominator_of, steep_of, delta_yOf, delta_xOf}
unfoldable pub use Rattle.moves.specs.Moves.{nearby}
pub use Rattle.spatial.specs.Place.{spatial_of}
use Rattle.refine.specs.declared.Spot.{Spot}

-- the spot displaced, where both displacements pass
unfoldable pub placed_of : Spot → ℕ → Float → Float → Option Spot
placed_of spot index dx dy =
    cond
    (nearby dx && nearby dy)
    (Some (record { x = spot.x ⊕ dx; y = spot.y ⊕ dy; sigma = spot.sigma; peak = spot.peak; octave = spot.octave; index = index; max = spot.max; dx = dx; dy = dy }))
    None

-- The spot moved by the five numbers w of the fit. The denominator passes at exactly 1e-10, and so does w1 in size.
unfoldable pub moved_of : Spot → ℕ → List Float → Option Spot
moved_of spot index w =
    cond
    (lt (denominator_of w) f1e_10)
    None
    (cond
    (lt (abs_of (w at 0)) f1e_10)
    None
    (cond (steep_of w spot.max) (placed_of spot index (delta_xOf w (delta_yOf w)) (delta_yOf w)) None))

-- the spot refined by the nine cubics k, or rejected
unfoldable pub refine_by : Prims → Set → Float → List (List Float) → Spot → Option Spot
refine_by p s most k spot =
    let v = values_of k spot.sigma in
    let index = index_of s.sigmas spot.sigma in
    cond (edge_of v most spot.max) (moved_of spot index (spatial_by p s index v)) None

abbrev pub refine_of : Set → Float → List (List Float) → Spot → Option Spot
refine_of = refine_by ours
