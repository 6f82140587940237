-- The size as it was before causes were given: a number or none. They are here for one claim, that no size has moved. Definitions only.
use Rattle.std.specs.Prelude.{List, Bool, cond, Float, Option, Some, None, Result, Ok, Err}
use Rattle.std.specs.Float.Ieee.{neg}
use Rattle.float.specs.Num.{◌⊕◌, ◌⊖◌, ◌⊗◌, ◌⊘◌}
use Rattle.tables.specs.declared.Set.{Set}
use Rattle.fit.specs.Cubic.{◌at◌, coeffs_of, curvature_of}
use Rattle.fit.specs.Prims.{Prims}
use Rattle.profile.specs.Four.{squares_of, over_of, roots_of, quotients_of, mean_of, spread_of, dot_of, energy_of, largest_by}
use Rattle.profile.specs.Profile.{residual_of, usable_samples, usable_roots, usable_line, usable_energy}
use Rattle.size.specs.Correct.{geometry_of, blend_of, bounded_of, model_move_of, derivative_of, place_of, sigma_at, chosen_of, trusted, in_range}
use Rattle.size.specs.declared.Geometry.{Geometry}
use Rattle.tables.specs.declared.Missing.{Missing}

-- the residual's energy over the whole
unfoldable pub ratio : Float → Float → Option Float
ratio residual whole = cond (usable_energy residual whole) (Some (residual ⊘ whole)) None

-- the line through the four points (x, z)
unfoldable pub fitted : List Float → List Float → Option Float
fitted x z =
    let numerator = dot_of (spread_of x) (spread_of z) in
    let slope = numerator ⊘ energy_of (spread_of x) in
    let mean = mean_of z in
    cond
    (usable_line mean numerator slope (mean ⊖ slope ⊗ mean_of x))
    (ratio (energy_of (residual_of (spread_of z) slope (spread_of x))) (energy_of z))
    None

-- the roots of the quotients, scaled by the largest of them
unfoldable pub scaled : Prims → List Float → List Float → Option Float
scaled p x quotients =
    let roots = roots_of quotients in
    let largest = largest_by p roots in
    let parts = over_of roots largest in
    cond (usable_roots quotients roots largest parts) (fitted x parts) None

-- the profile statistic
unfoldable pub statistic : Prims → List Float → List Float → Option Float
statistic p sigmas l =
    let x = squares_of sigmas in
    cond (usable_samples l) (scaled p x (quotients_of x l)) None

-- the part of a step, beta where the statistic is absent
unfoldable pub beta : Geometry → Option Float → Float
beta g (Some value) = blend_of g value
beta g None = g.beta

-- the sigma to which a trusted place t is moved
unfoldable pub moved : Geometry → List Float → Float → Float → Float → Float → Bool → Option Float
moved g k part t derivative curvature is_max =
    let move = bounded_of g part (neg derivative ⊘ curvature) in
    let sigma = sigma_at g (t ⊕ move) in
    cond
    (in_range g move (t ⊕ move) sigma)
    (Some (chosen_of g k t move (model_move_of g part (k at 0) derivative curvature move) sigma is_max))
    None

-- the corrected sigma
unfoldable pub corrected : Prims → Set → List Float → Float → Bool → Option Float
corrected p s l anchor is_max =
    let g = geometry_of s in
    let k = coeffs_of s.geometry l in
    let t = place_of g anchor in
    let derivative = derivative_of k t in
    let curvature = curvature_of k t in
    cond
    (trusted g t derivative curvature is_max)
    (moved g k (beta g (statistic p s.sigmas l)) t derivative curvature is_max)
    None

-- an answer less its cause
unfoldable pub less : Result Float Missing → Option Float
less (Ok sigma) = Some sigma
less (Err why) = None
