-- What the functions of blurs.rt answer. Definitions only.
use Rattle.std.specs.Prelude.{ℕ, ◌-◌, ◌*◌, Bool, true, false, cond, not, ◌||◌, List, [], ◌∷◌, length, ltb, eqb, Float}
use Rattle.fit.specs.Cubic.{◌at◌}
use Rattle.grid.specs.Grid.{at_start}
use Rattle.kernels.specs.declared.Kernel.{Kernel}
use Rattle.kernels.specs.Kernel.{float, kernel_of}
use Rattle.blur.specs.Blur.{level_of}

-- the first 17 of the values; NaN for what is missing
unfoldable pub first_seventeen : List Float → List Float
first_seventeen v =
    v at 0 ∷ v at 1 ∷ v at 2 ∷ v at 3 ∷ v at 4 ∷ v at 5 ∷ v at 6 ∷ v at 7 ∷ v at 8 ∷ v at 9 ∷ v at 10 ∷ v at 11 ∷ v at 12 ∷ v at 13 ∷ v at 14 ∷ v at 15 ∷ v at 16 ∷ []

-- the radius as a float, then the taps; NaN past the end
unfoldable pub kernel_part : Kernel → ℕ → Float
kernel_part k i = cond (eqb i 0) (float k.radius) (k.taps at (i - 1))

-- a side is too long, the raw map is not rows*cols long, a buffer of x or y floats is shorter, a radius j or k is above 16, or t or u taps are not 17
unfoldable pub misfits : ℕ → ℕ → ℕ → ℕ → ℕ → ℕ → ℕ → ℕ → ℕ → Bool
misfits rows cols n x y j k t u =
    (ltb 4096 rows || ltb 4096 cols)
    || (not (eqb n (rows * cols)) || (ltb x (rows * cols) || (ltb y (rows * cols) || (ltb 16 j || (ltb 16 k || (not (eqb t 17) || not (eqb u 17)))))))

-- an answer, and two buffers after it
pub record BlurLeft : Type 0 where
  pub answer : Bool
  pub x : List Float
  pub y : List Float

-- these three, given one by one
abbrev pub blur_left : Bool → List Float → List Float → BlurLeft
blur_left a x y = record { answer = a; x = x; y = y }

-- true and both levels at the starts of the buffers, or false and nothing written
unfoldable pub blur_face : ℕ → List Float → ℕ → List Float → ℕ → ℕ → List Float → List Float → List Float → BlurLeft
blur_face radius taps radius2 taps2 rows cols raw x y =
    cond (misfits rows cols (length raw) (length x) (length y) radius radius2 (length taps) (length taps2))
    (blur_left false x y)
    (blur_left true (at_start (level_of raw rows cols (kernel_of radius (first_seventeen taps))) x)
    (at_start (level_of raw rows cols (kernel_of radius2 (first_seventeen taps2))) y))
