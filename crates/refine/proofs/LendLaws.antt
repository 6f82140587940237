-- What the lending refinement leaves.
use Rattle.std.specs.Prelude.{Option, Some, None}
use mathlib.Core.Path.{◌≡◌, refl}
use mathlib.Core.Bool.{true, false}
use mathlib.Core.List.{List}
use lib.Ieee.{Float}
use Rattle.tables.specs.declared.Set.{Set}
use Rattle.refine.specs.Refine.{refine_of}
use Rattle.refine.specs.Lend.{left_of, lent_of}
use Rattle.refine.specs.declared.Spot.{Spot}

-- a refusal leaves the spot as it was
pub refused-leaves-spot : (set : Set) (ratio : Float) (k : List (List Float)) (spot : Spot) → (lent_of set ratio k spot).ok ≡ false → (lent_of set ratio k spot).spot ≡ spot
unfolding lent_of left_of
refused-leaves-spot set ratio k spot = go (refine_of set ratio k spot)
  where
    go : (r : Option Spot) → (left_of spot r).ok ≡ false → (left_of spot r).spot ≡ spot
    go (Some found) h = cc
    go None h = refl

-- it accepts exactly where the refinement does, and leaves the spot accepted
pub accepted-left : (set : Set) (ratio : Float) (k : List (List Float)) (spot : Spot) → (lent_of set ratio k spot).ok ≡ true → refine_of set ratio k spot ≡ Some (lent_of set ratio k spot).spot
unfolding lent_of left_of
accepted-left set ratio k spot = go (refine_of set ratio k spot)
  where
    go : (r : Option Spot) → (left_of spot r).ok ≡ true → r ≡ Some (left_of spot r).spot
    go (Some found) h = refl
    go None h = cc
