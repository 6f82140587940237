-- The statistic's four tests, each asked for itself: the words of the claims about its causes. Definitions only.
use Rattle.std.specs.Prelude.{ℕ, List, [], ◌∷◌, Bool, Float, Result, Err}
use Rattle.float.specs.Num.{◌⊖◌, ◌⊗◌, ◌⊘◌}
use Rattle.fit.specs.Prims.{Prims}
use Rattle.profile.specs.Four.{squares_of, over_of, roots_of, quotients_of, mean_of, spread_of, dot_of, energy_of, largest_by}
use Rattle.profile.specs.Profile.{residual_of, usable_samples, usable_roots, usable_line, usable_energy}
use Rattle.profile.specs.Tests.{Test, ◌else◌}
use Rattle.profile.specs.declared.Absence.{Absence}
use Rattle.profile.specs.declared.Absence.TheVariants.{Samples, Quotients, Line, Energy}

-- the scaled roots of the samples l under the sigmas
unfoldable pub scaled_roots : Prims → List Float → List Float → List Float
scaled_roots p sigmas l = let roots = roots_of (quotients_of (squares_of sigmas) l) in over_of roots (largest_by p roots)

-- the quotients, their roots, the largest of them and the scaled ones are usable
unfoldable pub roots_test : Prims → List Float → List Float → Bool
roots_test p sigmas l =
    let quotients = quotients_of (squares_of sigmas) l in
    usable_roots quotients (roots_of quotients) (largest_by p (roots_of quotients)) (scaled_roots p sigmas l)

-- the slope of the line through the four points (x, z)
unfoldable pub slope_of : List Float → List Float → Float
slope_of x z = dot_of (spread_of x) (spread_of z) ⊘ energy_of (spread_of x)

-- that line is usable
unfoldable pub line_test : List Float → List Float → Bool
line_test x z = usable_line (mean_of z) (dot_of (spread_of x) (spread_of z)) (slope_of x z) (mean_of z ⊖ slope_of x z ⊗ mean_of x)

-- the energy of the points' distances from it
unfoldable pub off_energy : List Float → List Float → Float
off_energy x z = energy_of (residual_of (spread_of z) (slope_of x z) (spread_of x))

-- the energies are usable
unfoldable pub energy_test : List Float → List Float → Bool
energy_test x z = usable_energy (off_energy x z) (energy_of z)

-- the four tests of the samples l under the sigmas, in the Rust's order, each with its cause
unfoldable pub tests_by : Prims → List Float → List Float → List (Test (Result Float Absence))
tests_by p sigmas l =
    let x = squares_of sigmas in
    let z = scaled_roots p sigmas l in
    (usable_samples l else Err Samples) ∷ (roots_test p sigmas l else Err Quotients) ∷ (line_test x z else Err Line) ∷ (energy_test x z else Err Energy) ∷ []

-- what the statistic is where each test passes
unfoldable pub quotient_by : Prims → List Float → List Float → Float
quotient_by p sigmas l =
    let x = squares_of sigmas in
    let z = scaled_roots p sigmas l in
    off_energy x z ⊘ energy_of z

-- the place of a cause's test
unfoldable pub place_of : Absence → ℕ
place_of Samples = 0
place_of Quotients = 1
place_of Line = 2
place_of Energy = 3
