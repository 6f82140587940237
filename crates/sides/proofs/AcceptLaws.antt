-- The refinement accepts where the edge and all tests of the displacement pass. Assumes nothing.
use Rattle.std.specs.Prelude.{Some, None}
use mathlib.Core.Path.{◌≡◌, refl}
use mathlib.Core.Bool.{Bool, true, false, cond, not, ◌&&◌}
use mathlib.Core.List.{List}
use lib.Ieee.{Float, lt}
use Rattle.float.specs.Small.{abs_of}
use Rattle.float.specs.Num.{f1e_10}
use Rattle.tables.specs.declared.Set.{Set}
use Rattle.fit.specs.Cubic.{◌at◌}
use Rattle.refine.specs.Refine.{values_of, edge_of, index_of, spatial_of, denominator_of, steep_of, delta_yOf, delta_xOf, nearby, placed_of, moved_of, refine_by, refine_of}
use Rattle.refine.specs.declared.Spot.{Spot}
use Rattle.rivals.specs.Ends.{spot_of, accepted_of}
use Rattle.sides.specs.Beside.{places_of}

by_tests : (e t u v n : Bool) (x : Spot) → accepted_of (cond e (cond t None (cond u None (cond v (cond n (Some x) None) None))) None) ≡ (e && (not t && (not u && (v && n))))
unfolding accepted_of
by_tests false t u v n x = refl
by_tests true true u v n x = refl
by_tests true false true v n x = refl
by_tests true false false false n x = refl
by_tests true false false true false x = refl
by_tests true false false true true x = refl

pub accepted-by : (s : Set) (ratio : Float) (k : List (List Float)) (sigma : Float) (is_max : Bool) → let v = values_of k sigma in
    accepted_of (refine_of s ratio k (spot_of sigma is_max)) ≡ (edge_of v ratio is_max && places_of (spatial_of s (index_of s.sigmas sigma) v) is_max)
unfolding refine_by moved_of placed_of places_of
accepted-by s ratio k sigma is_max =
    let v = values_of k sigma in
    let w = spatial_of s (index_of s.sigmas sigma) v in
    by_tests (edge_of v ratio is_max) (lt (denominator_of w) f1e_10) (lt (abs_of (w at 0)) f1e_10) (steep_of w is_max) (nearby (delta_xOf w (delta_yOf w)) && nearby (delta_yOf w)) _
