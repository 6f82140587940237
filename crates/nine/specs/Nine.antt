-- The samples at the nine places around a pixel, from the offsets at which five columns lie. Nothing here stands in a promise of an entry. Definitions only.
use Rattle.std.specs.Prelude.{ℕ, zero, suc, ◌+◌, ◌-◌, ◌≤◌, ◌<◌, List, [], ◌∷◌, length, Float}
use Rattle.float.specs.Num.{◌⊕◌, ◌⊖◌, ◌⊗◌, f4}
use Rattle.fit.specs.Cubic.{◌at◌}
use Rattle.samples.specs.Level.{stencil_of}
use Rattle.samples.specs.Four.{Four, samples_by}

-- ---- where they lie

-- c places from the offsets on, in a list of n and, the column after them, in one of m
pub record Span (n m left mid right c : ℕ) : Type 0 where
  pub up : 1 ≤ mid
  pub down : mid + c < n
  pub before : left + c ≤ n
  pub behind : right + c ≤ m
  pub small : left + mid + right ≤ 50331648

-- that of each of four levels
pub record Spans (l r : Four) (left mid right c : ℕ) : Type 0 where
  pub l0 : Span (length l.l0) (length r.l0) left mid right c
  pub l1 : Span (length l.l1) (length r.l1) left mid right c
  pub l2 : Span (length l.l2) (length r.l2) left mid right c
  pub l3 : Span (length l.l3) (length r.l3) left mid right c

-- the places that are read beside n pixels, from the offsets of four columns of the lists l on, the last of which is followed by one at t of the lists r
pub record Beside (l r : Four) (u x y z t n : ℕ) : Type 0 where
  pub before : Spans l l u x y (n + 3)
  pub own : Spans l l x y z (n + 3)
  pub after : Spans l r y z t (n + 3)

-- ---- what is read

-- the samples of three columns side by side: column k at place i, from the offsets of the columns u, x, y and z of the lists l, the last before t of the lists r
unfoldable pub three_of : Four → Four → ℕ → ℕ → ℕ → ℕ → ℕ → List Float → ℕ → ℕ → List Float
three_of l r u x y z t g zero i = samples_by l l (u + i) (x + i) (y + i) g
three_of l r u x y z t g (suc zero) i = samples_by l l (x + i) (y + i) (z + i) g
three_of l r u x y z t g (suc (suc k)) i = samples_by l r (y + i) (z + i) (t + i) g

-- the samples at the nine places around place i + 1 of the middle one of three columns, by rows: l k i are those at place i of the k-th column
unfoldable pub nine_beside : (ℕ → ℕ → List Float) → ℕ → List (List Float)
nine_beside l i =
    l 0 i ∷ l 1 i ∷ l 2 i ∷ l 0 (i + 1) ∷ l 1 (i + 1) ∷ l 2 (i + 1) ∷ l 0 (i + 2) ∷ l 1 (i + 2) ∷ l 2 (i + 2) ∷ []

-- ---- one level of it

-- the stencil around mid of l, with the column after it at right of r, times a squared sigma
unfoldable pub stencil_by : List Float → List Float → ℕ → ℕ → ℕ → Float → Float
stencil_by l r left mid right square = (l at left ⊕ r at right ⊕ l at (mid - 1) ⊕ l at (mid + 1) ⊖ f4 ⊗ l at mid) ⊗ square

-- a level's sample at mid, with the pixel before it at left of the same list and the one after it at right of another
unfoldable pub sample_by : List Float → List Float → ℕ → ℕ → ℕ → Float → Float
sample_by l r left mid right sigma = stencil_of (l at left) (r at right) (l at (mid - 1)) (l at (mid + 1)) (l at mid) sigma

-- three of them, one below the other
unfoldable pub down_by : List Float → List Float → ℕ → ℕ → ℕ → Float → List Float
down_by l r left mid right sigma =
    sample_by l r left mid right sigma ∷ sample_by l r (left + 1) (mid + 1) (right + 1) sigma ∷ sample_by l r (left + 2) (mid + 2) (right + 2) sigma ∷ []

-- three lists of three, side by side, by rows
unfoldable pub rows_of : List Float → List Float → List Float → List Float
rows_of a b c = a at 0 ∷ b at 0 ∷ c at 0 ∷ a at 1 ∷ b at 1 ∷ c at 1 ∷ a at 2 ∷ b at 2 ∷ c at 2 ∷ []

-- a level's samples at the nine places
unfoldable pub level_nine : List Float → List Float → ℕ → ℕ → ℕ → ℕ → ℕ → Float → List Float
level_nine l r u x y z t sigma = rows_of (down_by l l u x y sigma) (down_by l l x y z sigma) (down_by l r y z t sigma)

-- what four levels have at one of the places
abbrev pub across_of : List Float → List Float → List Float → List Float → ℕ → List Float
across_of p q v w i = p at i ∷ q at i ∷ v at i ∷ w at i ∷ []

-- at all nine
unfoldable pub turned : List Float → List Float → List Float → List Float → List (List Float)
turned p q v w =
    across_of p q v w 0 ∷ across_of p q v w 1 ∷ across_of p q v w 2 ∷ across_of p q v w 3 ∷ across_of p q v w 4 ∷ across_of p q v w 5 ∷ across_of p q v w 6
    ∷ across_of p q v w 7 ∷ across_of p q v w 8 ∷ []
