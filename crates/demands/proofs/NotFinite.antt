-- A sample is finite only where its five pixels are, whatever sigma is. Assumes nothing.
use Prim.Native.Nat.{ℕ}
use mathlib.Core.Path.{◌≡◌}
use mathlib.Core.Bool.{true}
use mathlib.Core.List.{List}
use lib.Ieee.{Float}
use Rattle.float.specs.Small.{finite}
use Rattle.float.proofs.Finite.{sum-finite, difference_finite, product_finite}
use Rattle.grid.specs.Grid.{pixel_at}
use Rattle.samples.specs.Level.{stencil_of, sample_at}
use Rattle.demands.specs.TwoMaps.{Cross}

record Five (l r u d c : Float) : Type 0 where
  left : finite l ≡ true
  right : finite r ≡ true
  up : finite u ≡ true
  down : finite d ≡ true
  centre : finite c ≡ true

stencil_five : (l r u d c sigma : Float) → finite (stencil_of l r u d c sigma) ≡ true → Five l r u d c
unfolding stencil_of
stencil_five l r u d c sigma h =
    let outer = difference_finite _ _ (product_finite _ _ h).0 in
    let three = sum-finite _ d outer.0 in
    let two = sum-finite _ u three.0 in
    let one = sum-finite l r two.0 in
    record { left = one.0; right = one.1; up = two.1; down = three.1; centre = (product_finite _ c outer.1).1 }

-- One lost pixel among the five that a sample reads makes the sample not finite, whatever sigma is.
pub sample_finite : (l : List Float) (rows row col : ℕ) (sigma : Float)
    → finite (sample_at l rows row col sigma) ≡ true → Cross (λ r c. finite (pixel_at l rows r c) ≡ true) row col
unfolding sample_at
sample_finite l rows row col sigma h =
    let five = stencil_five _ _ _ _ _ sigma h in
    record { left = five.left; right = five.right; up = five.up; down = five.down; centre = five.centre }

-- Two levels with the same five pixels have the same sample.
pub sample_same : (l l' : List Float) (rows row col : ℕ) (sigma : Float)
    → Cross (λ r c. pixel_at l rows r c ≡ pixel_at l' rows r c) row col → sample_at l rows row col sigma ≡ sample_at l' rows row col sigma
unfolding sample_at
sample_same l l' rows row col sigma x = rw (x.left, x.right, x.up, x.down, x.centre)
