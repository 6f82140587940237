-- Whether an inner level carries the strongest sample of a polarity. Definitions only.
use Rattle.std.specs.Prelude.{List, Bool, cond, Float}
use Rattle.std.specs.Float.Ieee.{lt}
use Rattle.fit.specs.Cubic.{◌at◌}
use Rattle.fit.specs.Prims.{Prims, ours, inner_pair, outer_pair}

-- the larger of the inner samples is above the larger of the outer ones; for a minimum, the smaller below
unfoldable pub owns_by : Prims → List Float → Bool → Bool
owns_by p l is_max =
    cond
    is_max
    (lt (p.max_p outer_pair (l at 0) (l at 3)) (p.max_p inner_pair (l at 1) (l at 2)))
    (lt (p.min_p inner_pair (l at 1) (l at 2)) (p.min_p outer_pair (l at 0) (l at 3)))

abbrev pub owns_of : List Float → Bool → Bool
owns_of = owns_by ours
