-- The eight neighbours, which a peak must strictly beat. Definitions only.
use Rattle.std.specs.Prelude.{ℕ, zero, suc, List, [], Bool, true, cond, ◌&&◌, ◌||◌, eqb, get_or, Float}
use Rattle.std.specs.Float.Ieee.{lt}
use Rattle.fit.specs.Prims.{Prims, ours}
use Rattle.fit.specs.Band.{extreme_by, extreme_of}
use Rattle.fit.specs.declared.Band.{Band}

-- the test holds at i, i + 1, .., n of them
unfoldable pub all_of : ℕ → ℕ → (ℕ → Bool) → Bool
all_of zero i f = true
all_of (suc n) i f = f i && all_of n (suc i) f

-- the peak strictly beats the band extreme of the i-th of the nine cubics, the pixel's own left out; the i-th makes its own choices of zeros, P i
unfoldable pub beats_by : (ℕ → Prims) → List (List Float) → Float → Band → Bool → ℕ → Bool
beats_by P k peak band is_max i =
    let extreme = extreme_by (P i) (get_or k i []) band.low band.high is_max in
    eqb i 4 || cond is_max (lt extreme peak) (lt peak extreme)

-- it beats all eight
unfoldable pub ring_by : (ℕ → Prims) → List (List Float) → Float → Band → Bool → Bool
ring_by P k peak band is_max = all_of 9 0 (beats_by P k peak band is_max)

-- the peak strictly beats the extreme of the cubic k over the band
unfoldable pub beats_cubic : List Float → Float → Band → Bool → Bool
beats_cubic k peak band is_max =
    let extreme = extreme_of k band.low band.high is_max in
    cond is_max (lt extreme peak) (lt peak extreme)

abbrev pub beats_of : List (List Float) → Float → Band → Bool → ℕ → Bool
beats_of = beats_by (λ i. ours)

abbrev pub ring_of : List (List Float) → Float → Band → Bool → Bool
ring_of = ring_by (λ i. ours)
