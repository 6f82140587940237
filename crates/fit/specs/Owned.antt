-- What the fast pass asks of samples in the place of `owns_of`, by comparisons alone. It stands in no promise of an entry. Definitions only.
use Rattle.std.specs.Prelude.{List, Bool, cond, ◌&&◌, ◌||◌, Float}
use Rattle.std.specs.Float.Ieee.{lt}
use Rattle.fit.specs.Cubic.{◌at◌}

-- x lies strictly beyond both outer samples: above for a maximum, below for a minimum
abbrev pub outside : Bool → Float → Float → Float → Bool
outside is_max x a b = cond is_max (lt a x && lt b x) (lt x a && lt x b)

-- one of the inner samples does
unfoldable pub owned_by : List Float → Bool → Bool
owned_by l is_max = outside is_max (l at 1) (l at 0) (l at 3) || outside is_max (l at 2) (l at 0) (l at 3)
