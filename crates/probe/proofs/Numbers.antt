-- The numbers that the loop takes are those that the definitions write out. Assumes nothing.
use Prim.Native.Nat.{ℕ, ◌+◌}
use mathlib.Core.Path.{◌≡◌, refl}
use mathlib.Core.List.{List, [], ◌∷◌, map}
use lib.Ieee.{Float}
use Rattle.std.specs.List.{range_with_len}
use Rattle.fit.specs.Cubic.{◌at◌}
use Rattle.probe.specs.Probe.{first_nine, four_of, nine_fours}
use Rattle.probe.specs.Blurs.{first_seventeen}

-- n numbers from the i-th on
abbrev pub taken : List Float → ℕ → ℕ → List Float
taken v i n = map (λ (j : ℕ). v at (i + j)) (range_with_len 0 n)

pub nine_taken : (v : List Float) → taken v 0 9 ≡ first_nine v
unfolding first_nine
nine_taken v = refl

pub seventeen_taken : (v : List Float) → taken v 0 17 ≡ first_seventeen v
unfolding first_seventeen
seventeen_taken v = refl

pub fours_taken : (k : List Float)
    → taken k 0 4 ∷ taken k 4 4 ∷ taken k 8 4 ∷ taken k 12 4 ∷ taken k 16 4 ∷ taken k 20 4 ∷ taken k 24 4 ∷ taken k 28 4 ∷ taken k 32 4 ∷ [] ≡ nine_fours k
unfolding nine_fours four_of
fours_taken k = refl
