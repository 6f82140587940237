-- Laws of a sample's five pixels, and of the nine places.
use Prim.Native.Nat.{ℕ, zero, suc, ◌+◌, ◌-◌, ◌*◌, ◌/◌, ◌%◌, ◌≤◌, ◌<◌}
use native.Mathlib.Nat.{not-suc-le-zero, le_of_suc-le-suc, suc-mul, add-mul}
use native.Mathlib.Omega.{arith}
use mathlib.Core.Path.{◌≡◌, refl, sym, ap, ◌∙◌}
use mathlib.Core.List.{List, []}
use lib.ListN.{length, get_or}
use lib.Seq.{ext_get_or}
use lib.Ieee.{Float, nan}
use Rattle.grid.specs.Grid.{pixel_at}
use Rattle.samples.specs.Level.{stencil_of, sample_at, places_of, nine_of}

-- ---- a sample's five pixels

left-place : (rows row col : ℕ) → 1 ≤ col → (col - 1) * rows + row ≡ col * rows + row - rows
left-place rows row zero h = absurd (not-suc-le-zero h)
left-place rows row (suc c) h = let e : suc c - 1 ≡ c = omega arith in rw e (omega (arith, suc-mul c rows))

pub right-place : (rows row col : ℕ) → (col + 1) * rows + row ≡ col * rows + row + rows
right-place rows row col = omega (arith, add-mul col 1 rows)

up-place : (rows row col : ℕ) → 1 ≤ row → col * rows + (row - 1) ≡ col * rows + row - 1
up-place rows row col h = omega arith

pub down-place : (rows row col : ℕ) → col * rows + (row + 1) ≡ col * rows + row + 1
down-place rows row col = omega arith

-- they lie a column and a pixel to both sides of the centre
pub sample_reads : (l : List Float) (rows row col : ℕ) (sigma : Float) → 1 ≤ row → 1 ≤ col → let p = col * rows + row in
    stencil_of (get_or l (p - rows) nan) (get_or l (p + rows) nan) (get_or l (p - 1) nan) (get_or l (p + 1) nan) (get_or l p nan) sigma ≡ sample_at l rows row col sigma
unfolding sample_at pixel_at
sample_reads l rows row col sigma up left = rw (left-place rows row col left, right-place rows row col, up-place rows row col up, down-place rows row col)

-- ---- the nine places

module _ (samples : ℕ → ℕ → List Float) (row col : ℕ) where
  abbrev pub placed : ℕ → List Float
  placed i = samples (row + i / 3 - 1) (col + i % 3 - 1)

  length-places : (n i : ℕ) → length (places_of samples row col n i) ≡ n
  unfolding places_of
  length-places zero i = refl
  length-places (suc n) i = ap suc (length-places n (suc i))

  places_at : (n i k : ℕ) → k < n → get_or (places_of samples row col n i) k [] ≡ placed (i + k)
  unfolding places_of
  places_at zero i k h = absurd (not-suc-le-zero h)
  places_at (suc n) i zero h = ap placed (omega arith)
  places_at (suc n) i (suc k) h = places_at n (suc i) k (le_of_suc-le-suc h) ∙ ap placed (omega arith)

  pub length_nine : length (nine_of samples row col) ≡ 9
  length_nine = length-places 9 0

  pub nine_place : (k : ℕ) → k < 9 → get_or (nine_of samples row col) k [] ≡ placed k
  nine_place k h = places_at 9 0 k h ∙ ap placed (omega arith)

  -- the fifth place is the pixel itself
  pub nine_centre : get_or (nine_of samples row col) 4 [] ≡ samples row col
  nine_centre =
      let same_row : row + 4 / 3 - 1 ≡ row = omega arith in
      let same-col : col + 4 % 3 - 1 ≡ col = omega arith in
      nine_place 4 (omega arith) ∙ rw (same_row, same-col)

  -- nine lists that are the places' samples are the nine
  pub nine_built : (l : List (List Float)) → length l ≡ 9 → ((k : ℕ) → k < 9 → get_or l k [] ≡ placed k) → l ≡ nine_of samples row col
  nine_built l e h =
      ext_get_or [] l (nine_of samples row col) (e ∙ sym (length-places 9 0))
      (λ k b. let inside : k < 9 = omega arith in h k inside ∙ sym (nine_place k inside))
