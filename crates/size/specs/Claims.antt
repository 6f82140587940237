-- The words of the claims about the correction. Definitions only.
use Rattle.std.specs.Prelude.{ℕ, ◌≡◌, List, [], ◌∷◌, Bool, true, Float, Result, Err}
use Rattle.std.specs.Float.Ieee.{le, neg}
use Rattle.float.specs.Small.{finite}
use Rattle.float.specs.Num.{◌⊕◌, ◌⊘◌}
use Rattle.tables.specs.declared.Set.{Set}
use Rattle.tables.specs.declared.Missing.{Missing}
use Rattle.tables.specs.declared.Missing.TheVariants.{Polarity, Range}
use Rattle.fit.specs.Cubic.{◌at◌, coeffs_of, curvature_of}
use Rattle.fit.specs.Prims.{Prims}
use Rattle.profile.specs.Tests.{Test, ◌else◌}
use Rattle.size.specs.Correct.{geometry_of, blend_beta_by, bounded_of, model_move_of, derivative_of, place_of, sigma_at, chosen_of, trusted, in_range}
use Rattle.size.specs.declared.Geometry.{Geometry}

-- a sigma is finite and lies in the accepted closed window
pub record InWindow (g : Geometry) (sigma : Float) : Type 0 where
  pub whole : finite sigma ≡ true
  pub low : le g.sigmamin sigma ≡ true
  pub high : le sigma g.sigmamax ≡ true

-- ---- the correction's two tests, each asked for itself

-- the place where a spot with the samples l stands is trusted
unfoldable pub trusted_test : Set → List Float → Float → Bool → Bool
trusted_test s l anchor is_max =
    let g = geometry_of s in
    let k = coeffs_of s.geometry l in
    let t = place_of g anchor in
    trusted g t (derivative_of k t) (curvature_of k t) is_max

-- the bounded move from there
unfoldable pub move_by : Prims → Set → List Float → Float → Float
move_by p s l anchor =
    let g = geometry_of s in
    let k = coeffs_of s.geometry l in
    let t = place_of g anchor in
    bounded_of g (blend_beta_by p g s.sigmas l) (neg (derivative_of k t) ⊘ curvature_of k t)

-- it leads into the range
unfoldable pub range_test : Prims → Set → List Float → Float → Bool
range_test p s l anchor =
    let g = geometry_of s in
    let end = place_of g anchor ⊕ move_by p s l anchor in
    in_range g (move_by p s l anchor) end (sigma_at g end)

-- the two, in the Rust's order, each with its cause
unfoldable pub tests_by : Prims → Set → List Float → Float → Bool → List (Test (Result Float Missing))
tests_by p s l anchor is_max = (trusted_test s l anchor is_max else Err Polarity) ∷ (range_test p s l anchor else Err Range) ∷ []

-- what the corrected sigma is where both pass
unfoldable pub sigma_by : Prims → Set → List Float → Float → Bool → Float
sigma_by p s l anchor is_max =
    let g = geometry_of s in
    let k = coeffs_of s.geometry l in
    let t = place_of g anchor in
    let move = move_by p s l anchor in
    chosen_of g k t move (model_move_of g (blend_beta_by p g s.sigmas l) (k at 0) (derivative_of k t) (curvature_of k t) move) (sigma_at g (t ⊕ move)) is_max

-- the place of a cause's test
unfoldable pub test_of : Missing → ℕ
test_of Polarity = 0
test_of Range = 1
