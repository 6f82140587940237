-- Four lists of floats, one for each level, and the samples read of them by places. Definitions only.
use Rattle.std.specs.Prelude.{ℕ, ◌+◌, ◌-◌, List, [], ◌∷◌, Float}
use Rattle.fit.specs.Cubic.{◌at◌}
use Rattle.samples.specs.Level.{stencil_of}

-- a list of floats for each of the four levels: four columns, or four slices of a ring
pub record Four : Type 0 where
  pub l0 : List Float
  pub l1 : List Float
  pub l2 : List Float
  pub l3 : List Float

-- these, given one by one
abbrev pub four_of : List Float → List Float → List Float → List Float → Four
four_of a b c d = record { l0 = a; l1 = b; l2 = c; l3 = d }

-- the samples at a place: the column before it at left and its own at mid of the lists l, the one after it at right of the lists r
unfoldable pub samples_by : Four → Four → ℕ → ℕ → ℕ → List Float → List Float
samples_by l r left mid right g =
    stencil_of (l.l0 at left) (r.l0 at right) (l.l0 at (mid - 1)) (l.l0 at (mid + 1)) (l.l0 at mid) (g at 0)
    ∷ stencil_of (l.l1 at left) (r.l1 at right) (l.l1 at (mid - 1)) (l.l1 at (mid + 1)) (l.l1 at mid) (g at 1)
    ∷ stencil_of (l.l2 at left) (r.l2 at right) (l.l2 at (mid - 1)) (l.l2 at (mid + 1)) (l.l2 at mid) (g at 2)
    ∷ stencil_of (l.l3 at left) (r.l3 at right) (l.l3 at (mid - 1)) (l.l3 at (mid + 1)) (l.l3 at mid) (g at 3) ∷ []
