-- Laws of a view's readers: the place of a pixel, none too far to ask for, and the five pixels of a sample. Assumes nothing.
use Prim.Native.Nat.{ℕ, ◌+◌, ◌-◌, ◌*◌, ◌/◌, ◌≤◌, ◌<◌, min}
use native.Mathlib.Nat.{div-lt_iff_lt-mul, le-div_iff_mul-le}
use native.Mathlib.Omega.{arith}
use mathlib.Core.Path.{◌≡◌, ap}
use mathlib.Core.List.{List}
use lib.ListN.{length, get_or, get_or-eq_default}
use lib.Ieee.{Float, nan}
use Rattle.grid.specs.Grid.{pixel_at}
use Rattle.samples.specs.Level.{stencil_of, sample_at}
use Rattle.samples.proofs.LevelLaws.{right-place, down-place}

-- ---- the place of a pixel

-- a col past what is left after the row's first floats has its place past the level
pub place-past : (n rows row col : ℕ) → 0 < rows → (n - row) / rows < col → n ≤ col * rows + row
place-past n rows row col h l = omega (arith, (div-lt_iff_lt-mul {k = rows} {x = n - row} {y = col} h).0 l)

-- and any other has it there
pub place_inside : (n rows row col : ℕ) → 0 < rows → row < n → col ≤ (n - row) / rows → col * rows + row ≤ n
place_inside n rows row col h r l = omega (arith, (le-div_iff_mul-le {k = rows} {x = col} {y = n - row} h).0 l)

-- ---- a float d places after another, whose place is capped by the level's length

pub none_after : (l : List Float) (place d p : ℕ) → p ≡ min (length l) place → length l - p ≤ d → get_or l (place + d) nan ≡ nan
none_after l place d p e h = get_or-eq_default l nan (omega (arith, e))

pub same_after : (l : List Float) (place d p : ℕ) → p ≡ min (length l) place → d < length l - p → get_or l (p + d) nan ≡ get_or l (place + d) nan
same_after l place d p e h = let inside : p ≡ place = omega (arith, e) in ap (λ (i : ℕ). get_or l (i + d) nan) inside

-- ---- the five pixels of a sample

pub sample_around : (l : List Float) (rows row col : ℕ) (sigma : Float) → let p = col * rows + row in
    stencil_of (pixel_at l rows row (col - 1)) (get_or l (p + rows) nan) (pixel_at l rows (row - 1) col) (get_or l (p + 1) nan) (pixel_at l rows row col) sigma
    ≡ sample_at l rows row col sigma
unfolding sample_at pixel_at
sample_around l rows row col sigma = rw (right-place rows row col, down-place rows row col)
