-- The profile statistic: how far the four points (sigma squared, root of sigma squared over the sample) are from a rising line. Definitions only.
-- Of the Rust's constants, PROFILE_X is `squares_of` the sigmas, PROFILE_MEAN_X its `mean_of`, PROFILE_DX its `spread_of`, PROFILE_X_ENERGY the `energy_of` that.
-- A statistic is absent for one of four causes, asked in this order: the samples, the quotients with their roots, the line, the energies. The first that applies is given.
use Rattle.std.specs.Prelude.{List, Bool, cond, not, ◌&&◌, ◌||◌, Float, Result, Ok, Err}
use Rattle.std.specs.Float.Ieee.{le}
use Rattle.float.specs.Small.{finite}
use Rattle.float.specs.Num.{◌⊖◌, ◌⊗◌, ◌⊘◌, f0}
use Rattle.fit.specs.Prims.{Prims, ours}
use Rattle.profile.specs.Four.{pairs, squares_of, over_of, roots_of, quotients_of, mean_of, spread_of, dot_of, energy_of, largest_by, all_finite, all_above, all_below, all_usable}
use Rattle.profile.specs.declared.Absence.TheVariants.{Samples, Quotients, Line, Energy}
use Rattle.profile.specs.declared.Absence.{Absence}

-- each one's distance from its mean, less the slope's part of its partner's
unfoldable pub residual_of : List Float → Float → List Float → List Float
residual_of dy slope dx = pairs (λ y x. y ⊖ slope ⊗ x) dy dx

-- ---- the four tests

-- the samples are finite, and all above 0 or all below 0
unfoldable pub usable_samples : List Float → Bool
usable_samples l = all_finite l && (all_above l || all_below l)

-- the quotients, their roots, the largest root and the scaled roots are finite and above 0
unfoldable pub usable_roots : List Float → List Float → Float → List Float → Bool
usable_roots quotients roots largest scaled =
    all_usable quotients && all_usable roots && finite largest && not (le largest f0) && all_usable scaled

-- the line is finite, it rises, and its intercept is above 0
unfoldable pub usable_line : Float → Float → Float → Float → Bool
usable_line mean numerator slope intercept =
    finite mean && finite numerator && finite slope && finite intercept && not (le slope f0) && not (le intercept f0)

-- the energies are finite, the whole is above 0, and their quotient is finite and not below 0
unfoldable pub usable_energy : Float → Float → Bool
usable_energy residual whole =
    finite residual && finite whole && not (le whole f0) && finite (residual ⊘ whole) && le f0 (residual ⊘ whole)

-- ---- the statistic, a step for each test

-- the residual's energy over the whole
unfoldable pub ratio_of : Float → Float → Result Float Absence
ratio_of residual whole = cond (usable_energy residual whole) (Ok (residual ⊘ whole)) (Err Energy)

-- the line through the four points (x, z)
unfoldable pub fitted_of : List Float → List Float → Result Float Absence
fitted_of x z =
    let numerator = dot_of (spread_of x) (spread_of z) in
    let slope = numerator ⊘ energy_of (spread_of x) in
    let mean = mean_of z in
    cond
    (usable_line mean numerator slope (mean ⊖ slope ⊗ mean_of x))
    (ratio_of (energy_of (residual_of (spread_of z) slope (spread_of x))) (energy_of z))
    (Err Line)

-- the roots of the quotients, scaled by the largest of them
unfoldable pub scaled_by : Prims → List Float → List Float → Result Float Absence
scaled_by p x quotients =
    let roots = roots_of quotients in
    let largest = largest_by p roots in
    let scaled = over_of roots largest in
    cond (usable_roots quotients roots largest scaled) (fitted_of x scaled) (Err Quotients)

-- the same by this build's max
abbrev pub scaled_of : List Float → List Float → Result Float Absence
scaled_of = scaled_by ours

-- the profile statistic of the samples l under the sigmas
unfoldable pub statistic_by : Prims → List Float → List Float → Result Float Absence
statistic_by p sigmas l =
    let x = squares_of sigmas in
    cond (usable_samples l) (scaled_by p x (quotients_of x l)) (Err Samples)

-- the same by this build's max
abbrev pub statistic_of : List Float → List Float → Result Float Absence
statistic_of = statistic_by ours
