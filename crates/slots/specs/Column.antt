-- The lines of a column, in a slot of the rings. Definitions only.
use Rattle.std.specs.Prelude.{ℕ, ◌+◌, ◌≤◌, ◌<◌, ◌≡◌, ◌⊎◌, List, [], ◌∷◌, length, get_or, Float}
use Rattle.float.specs.Num.{◌⊗◌}
use Rattle.tables.specs.declared.Set.{Set}
use Rattle.tables.specs.declared.Thresholds.{Thresholds}
use Rattle.fit.specs.Cubic.{◌at◌}
use Rattle.columns.specs.Sample.{stencil_at}
use Rattle.rivals.specs.Ready.{Slot}

-- the lists are as long as the arrays that hold them
pub record Rings (a b c d p v : List Float) (w : List ℕ) : Type 0 where
  pub first : length a ≡ 780
  pub second : length b ≡ 780
  pub third : length c ≡ 780
  pub fourth : length d ≡ 780
  pub points : length p ≡ 1560
  pub values : length v ≡ 1560
  pub words : length w ≡ 780

-- place i of four lines of samples
abbrev pub line_at : List Float → List Float → List Float → List Float → ℕ → List Float
line_at s0 s1 s2 s3 i = s0 at i ∷ s1 at i ∷ s2 at i ∷ s3 at i ∷ []

-- the samples at place i of a column of four levels, from its own offset and those of the columns beside it
abbrev pub read_at : List Float → List Float → List Float → List Float → List Float → ℕ → ℕ → ℕ → ℕ → List Float
read_at l0 l1 l2 l3 g left mid right i =
    stencil_at l0 (left + i) (mid + i) (right + i) (g at 0 ⊗ g at 0) ∷ stencil_at l1 (left + i) (mid + i) (right + i) (g at 1 ⊗ g at 1)
    ∷ stencil_at l2 (left + i) (mid + i) (right + i) (g at 2 ⊗ g at 2) ∷ stencil_at l3 (left + i) (mid + i) (right + i) (g at 3 ⊗ g at 3) ∷ []

-- n pixels with the samples l stand in the slot at z, no word of theirs exceeds most, and every other slot is as it was
pub record Filled (s : Set) (th : Thresholds) (l : ℕ → List Float) (z n : ℕ) (a b c d p v : List Float) (w : List ℕ) (a' b' c' d' p' v' : List Float) (w' : List ℕ) (most : ℕ) : Type 0 where
  pub slot : Slot s th l z n a' b' c' d' p' v' w'
  pub under : (i : ℕ) → i < n → get_or w' (z + i) 0 ≤ most
  pub kept : (k : ℕ → List Float) (y m : ℕ) → y + m ≤ 780 → (y + m ≤ z) ⊎ (z + n ≤ y) → Slot s th k y m a b c d p v w → Slot s th k y m a' b' c' d' p' v' w'
  pub same : (j : ℕ) → (j < z) ⊎ (z + n ≤ j) → get_or w' j 0 ≡ get_or w j 0
  pub rings : Rings a' b' c' d' p' v' w'
