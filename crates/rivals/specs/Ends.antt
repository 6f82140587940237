-- A candidate that a neighbour reaches at an end of its band, and one that the refinement refuses. Definitions only.
use Rattle.std.specs.Prelude.{ℕ, ◌+◌, ◌%◌, Bool, true, false, not, ◌&&◌, ◌||◌, List, [], ◌∷◌, leb, Float, Option, Some, None}
use Rattle.std.specs.Float.Ieee.{le}
use Rattle.float.specs.Num.{◌⊗◌, f0}
use Rattle.tables.specs.declared.Set.{Set}
use Rattle.fit.specs.Cubic.{◌at◌, horner_of}
use Rattle.fit.specs.Band.{sign_of, band_of}
use Rattle.fit.specs.declared.Band.{Band}
use Rattle.refine.specs.Refine.{refine_of}
use Rattle.refine.specs.declared.Spot.{Spot}
use Rattle.columns.specs.Stat.{cubic_in}

-- the cubic k reaches val at one of the band's ends, with the polarity's sign
unfoldable pub ends : List Float → Float → Float → Band → Bool
ends k sign val b = le val (sign ⊗ horner_of k b.low) || le val (sign ⊗ horner_of k b.high)

-- that of the cubic at place m
abbrev pub ends_at : List Float → List Float → List Float → List Float → Float → Float → Band → ℕ → Bool
ends_at a b c d sign val band m = ends (cubic_in a b c d m) sign val band

-- a neighbour of the pixel at place h + 1 does
unfoldable pub ended_of : ℕ → ℕ → ℕ → ℕ → List Float → List Float → List Float → List Float → Float → Float → Band → Bool
ended_of x y z h a b c d sign val band =
    (ends_at a b c d sign val band (x + h) || ends_at a b c d sign val band (x + h + 1) || ends_at a b c d sign val band (x + h + 2))
    || (ends_at a b c d sign val band (y + h) || ends_at a b c d sign val band (y + h + 2))
    || (ends_at a b c d sign val band (z + h) || ends_at a b c d sign val band (z + h + 1) || ends_at a b c d sign val band (z + h + 2))

-- the cubics at the nine places around it, by rows
unfoldable pub nine_in : ℕ → ℕ → ℕ → ℕ → List Float → List Float → List Float → List Float → List (List Float)
nine_in x y z h a b c d =
    cubic_in a b c d (x + h) ∷ cubic_in a b c d (y + h) ∷ cubic_in a b c d (z + h)
    ∷ cubic_in a b c d (x + h + 1) ∷ cubic_in a b c d (y + h + 1) ∷ cubic_in a b c d (z + h + 1)
    ∷ cubic_in a b c d (x + h + 2) ∷ cubic_in a b c d (y + h + 2) ∷ cubic_in a b c d (z + h + 2) ∷ []

-- a spot with this sigma and polarity, wherever it lies
abbrev pub spot_of : Float → Bool → Spot
spot_of sigma is_max = record { x = f0; y = f0; sigma = sigma; peak = f0; octave = 0; index = 0; max = is_max; dx = f0; dy = f0 }

-- the refinement accepts
unfoldable pub accepted_of : Option Spot → Bool
accepted_of (Some spot) = true
accepted_of None = false

-- the candidate e is neither reached at an end of its band nor refused
unfoldable pub survives_of : Set → Float → ℕ → ℕ → ℕ → ℕ → List Float → List Float → List Float → List Float → List Float → List Float → Bool
survives_of s ratio x y z e a b c d p v =
    let sigma = p at (y + e + 1) in
    let is_max = leb 780 e in
    not (ended_of x y z (e % 780) a b c d (sign_of is_max) (v at (y + e + 1)) (band_of s.sigmas sigma))
    && accepted_of (refine_of s ratio (nine_in x y z (e % 780) a b c d) (spot_of sigma is_max))
