-- Four floats at a time, each operation rounded once. Definitions only.
use Rattle.std.specs.Prelude.{ℕ, List, [], ◌∷◌, Bool, ◌&&◌, Float}
use Rattle.std.specs.Float.Ieee.{lt}
use Rattle.float.specs.Small.{finite, abs_of}
use Rattle.float.specs.Sqrt.{sqrt_of}
use Rattle.float.specs.Num.{◌⊕◌, ◌⊖◌, ◌⊗◌, ◌⊘◌, f0, f¼}
use Rattle.fit.specs.Cubic.{◌at◌}
use Rattle.fit.specs.Prims.{Prims, ours}

-- a function of each
abbrev pub each : (Float → Float) → List Float → List Float
each f v = f (v at 0) ∷ f (v at 1) ∷ f (v at 2) ∷ f (v at 3) ∷ []

-- a function of each and its partner
abbrev pub pairs : (Float → Float → Float) → List Float → List Float → List Float
pairs f v w = f (v at 0) (w at 0) ∷ f (v at 1) (w at 1) ∷ f (v at 2) (w at 2) ∷ f (v at 3) (w at 3) ∷ []

-- a test of all four
abbrev pub all : (Float → Bool) → List Float → Bool
all test v = test (v at 0) && test (v at 1) && test (v at 2) && test (v at 3)

-- ---- lists of four

-- each times itself
unfoldable pub squares_of : List Float → List Float
squares_of v = each (λ x. x ⊗ x) v

-- each less m
unfoldable pub less_of : List Float → Float → List Float
less_of v m = each (λ x. x ⊖ m) v

-- each over m
unfoldable pub over_of : List Float → Float → List Float
over_of v m = each (λ x. x ⊘ m) v

-- each one's square root
unfoldable pub roots_of : List Float → List Float
roots_of v = each sqrt_of v

-- each times its partner
unfoldable pub products_of : List Float → List Float → List Float
products_of v w = pairs (λ x y. x ⊗ y) v w

-- each over its partner's absolute value
unfoldable pub quotients_of : List Float → List Float → List Float
quotients_of v w = pairs (λ x y. x ⊘ abs_of y) v w

-- ---- numbers of four

-- the sum, from the first on
unfoldable pub sum_of : List Float → Float
sum_of v = v at 0 ⊕ v at 1 ⊕ v at 2 ⊕ v at 3

-- the mean
unfoldable pub mean_of : List Float → Float
mean_of v = sum_of v ⊗ f¼

-- each one's distance from the mean
unfoldable pub spread_of : List Float → List Float
spread_of v = less_of v (mean_of v)

-- the sum of the products
unfoldable pub dot_of : List Float → List Float → Float
dot_of v w = sum_of (products_of v w)

-- the sum of the squares
unfoldable pub energy_of : List Float → Float
energy_of v = sum_of (squares_of v)

-- which call of max it is, in the largest of four: of the two that are left
abbrev pub last_call : ℕ
last_call = 0

-- of the first two
abbrev pub first_pair : ℕ
first_pair = 1

-- of the last two
abbrev pub last_pair : ℕ
last_pair = 2

-- the largest: that of the first two and that of the last two compared
unfoldable pub largest_by : Prims → List Float → Float
largest_by p v = p.max_p last_call (p.max_p first_pair (v at 0) (v at 1)) (p.max_p last_pair (v at 2) (v at 3))

-- the same by this build's max
abbrev pub largest_of : List Float → Float
largest_of = largest_by ours

-- ---- tests of four

-- all are finite
unfoldable pub all_finite : List Float → Bool
all_finite v = all finite v

-- all are above 0
unfoldable pub all_above : List Float → Bool
all_above v = all (λ x. lt f0 x) v

-- all are below 0
unfoldable pub all_below : List Float → Bool
all_below v = all (λ x. lt x f0) v

-- finite and above 0
unfoldable pub usable : Float → Bool
usable x = finite x && lt f0 x

-- all are finite and above 0
unfoldable pub all_usable : List Float → Bool
all_usable v = all usable v
