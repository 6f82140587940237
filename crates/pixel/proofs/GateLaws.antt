-- What fails a pixel's own gates.
use mathlib.Core.Path.{◌≡◌, refl}
use mathlib.Core.List.{List, [], ◌∷◌}
use mathlib.Core.Bool.{Bool, true, false, ◌&&◌, and-false}
use lib.Ieee.{Float, lt, is_nan}
use Rattle.float.specs.Small.{min_of, max_of}
use Rattle.tables.specs.declared.Set.{Set}
use Rattle.tables.specs.declared.Thresholds.{Thresholds}
use Rattle.fit.specs.Prims.{ours}
use Rattle.fit.specs.Envelope.{within}
use Rattle.fit.specs.Owns.{owns_by, owns_of}
use Rattle.pixel.specs.Gate.{strong_of, curved_of, gate_by, own_gate_by, own_gate_of}
use Rattle.pixel.specs.Verdict.{cubics_of}
use Rattle.pixel.specs.Rules.{own_samples, own_cubic, own_sigma, own_peak}

-- where no inner level owns the extremum the gates fail
pub unowned_fails : (th : Thresholds) (l k : List Float) (sigma peak : Float) (is_max : Bool) → owns_of l is_max ≡ false → gate_by ours th l k sigma peak is_max ≡ false
unfolding gate_by
unowned_fails th l k sigma peak is_max h = rw (h, and-false (within th.low th.high sigma && strong_of th peak is_max && curved_of th k sigma is_max))

-- no samples own nothing
no_samples : (is_max : Bool) → owns_of [] is_max ≡ false
unfolding owns_by min_of max_of is_nan lt
no_samples true = refl
no_samples false = refl

-- the gates asked of the nine places are the pixel's own
pub own_gates_fail : (s : Set) (th : Thresholds) (nine : List (List Float)) (is_max : Bool) → own_gate_of s th (own_samples nine) is_max ≡ false →
    gate_by ours th (own_samples nine) (own_cubic s nine) (own_sigma s nine is_max) (own_peak s nine is_max) is_max ≡ false
unfolding own_gate_by cubics_of
own_gates_fail s th [] is_max h = unowned_fails th [] _ _ _ is_max (no_samples is_max)
own_gates_fail s th (a ∷ []) is_max h = unowned_fails th [] _ _ _ is_max (no_samples is_max)
own_gates_fail s th (a ∷ b ∷ []) is_max h = unowned_fails th [] _ _ _ is_max (no_samples is_max)
own_gates_fail s th (a ∷ b ∷ c ∷ []) is_max h = unowned_fails th [] _ _ _ is_max (no_samples is_max)
own_gates_fail s th (a ∷ b ∷ c ∷ d ∷ []) is_max h = unowned_fails th [] _ _ _ is_max (no_samples is_max)
own_gates_fail s th (a ∷ b ∷ c ∷ d ∷ l ∷ rest) is_max h = h
