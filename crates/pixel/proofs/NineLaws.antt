-- One place more: what the loops over the nine places add at each turn.
use mathlib.Core.Path.{◌≡◌, refl, ap}
use mathlib.Core.List.{List, [], ◌∷◌, ◌++◌}
use mathlib.Core.Bool.{Bool, ◌&&◌}
use Prim.Native.Nat.{ℕ, zero, suc, ◌<◌}
use native.Mathlib.Nat.{not-suc-le-zero, le_of_suc-le-suc}
use lib.ListN.{length, get_or}
use lib.Ieee.{Float}
use Rattle.std.specs.List.{list_all}
use Rattle.fit.specs.Cubic.{coeffs_of}
use Rattle.fit.specs.Band.{finite_cubic}
use Rattle.pixel.specs.Verdict.{cubics_of, whole_place, whole_of}

pub cubics_snoc : (t : List Float) (ls : List (List Float)) (l : List Float) → cubics_of t (ls ++ (l ∷ [])) ≡ cubics_of t ls ++ (coeffs_of t l ∷ [])
unfolding cubics_of
cubics_snoc t [] l = refl
cubics_snoc t (x ∷ ls) l = ap (λ (k : List (List Float)). coeffs_of t x ∷ k) (cubics_snoc t ls l)

-- what a chain finds of all places
pub whole_all : (ls : List (List Float)) → list_all finite_cubic ls ≡ whole_of ls
unfolding whole_of whole_place finite_cubic
whole_all [] = refl
whole_all (l ∷ ls) = ap (λ (b : Bool). whole_place l && b) (whole_all ls)

-- a place's cubic is that of its samples
pub cubics_place : (t : List Float) (ls : List (List Float)) (i : ℕ) → i < length ls → get_or (cubics_of t ls) i [] ≡ coeffs_of t (get_or ls i [])
unfolding cubics_of
cubics_place t [] i h = absurd (not-suc-le-zero h)
cubics_place t (l ∷ ls) zero h = refl
cubics_place t (l ∷ ls) (suc i) h = cubics_place t ls i (le_of_suc-le-suc h)

pub length_cubics : (t : List Float) (ls : List (List Float)) → length (cubics_of t ls) ≡ length ls
unfolding cubics_of
length_cubics t [] = refl
length_cubics t (l ∷ ls) = ap suc (length_cubics t ls)
