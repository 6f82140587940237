-- Of the statistic's four causes the last has no input, and the second only its first part: a quotient. For any sigmas and samples. Assumes nothing.
use Rattle.std.specs.Prelude.{Err}
use native.Mathlib.Omega.{arith}
use mathlib.Core.Path.{◌≡◌, refl, sym, ◌∙◌}
use mathlib.Core.List.{List}
use mathlib.Core.Bool.{true, false, false≢true}
use lib.Ieee.{Float}
use Rattle.fit.specs.Prims.{Prims, Allowed, ours}
use Rattle.profile.specs.Four.{squares_of, quotients_of, all_usable}
use Rattle.profile.specs.Profile.{statistic_by}
use Rattle.profile.specs.Tests.{passes, FirstFails}
use Rattle.profile.specs.Causes.{scaled_roots, roots_test, slope_of, line_test, off_energy, energy_test, tests_by, place_of}
use Rattle.profile.specs.declared.Absence.{Absence}
use Rattle.profile.specs.declared.Absence.TheVariants.{Samples, Quotients, Line, Energy}
use Rattle.profile.proofs.ZeroSign.{statistic-same}
use Rattle.profile.proofs.CausesLaws.{cause-is-first}
use Rattle.unreached.specs.Unit.{Scaled}
use Rattle.unreached.specs.Reached.{reached}
use Rattle.unreached.proofs.RootsUsable.{roots_usable, scaled_unit, quotients_fit}
use Rattle.unreached.proofs.Energy.{energies_usable}

module _ (sigmas l : List Float) where
  abbrev quotients : List Float
  quotients = quotients_of (squares_of sigmas) l

  -- the second test asks only its quotients: their roots, the largest of them and the scaled ones fail with no quotient that passes
  pub roots_by_quotients : roots_test ours sigmas l ≡ all_usable quotients
  unfolding roots_test scaled_roots
  roots_by_quotients = let f = quotients_fit (squares_of sigmas) l in roots_usable quotients f.0 f.1 f.2 f.3

  scaled : roots_test ours sigmas l ≡ true → Scaled (scaled_roots ours sigmas l)
  unfolding scaled_roots
  scaled h = let f = quotients_fit (squares_of sigmas) l in scaled_unit quotients f.0 f.1 f.2 f.3 (sym roots_by_quotients ∙ h)

  -- where the second and the third test pass, the fourth does
  pub energies_pass : roots_test ours sigmas l ≡ true → line_test (squares_of sigmas) (scaled_roots ours sigmas l) ≡ true → energy_test (squares_of sigmas) (scaled_roots ours sigmas l) ≡ true
  unfolding line_test energy_test slope_of off_energy
  energies_pass roots line = energies_usable (squares_of sigmas) (scaled_roots ours sigmas l) (scaled roots) line

  never_fourth : FirstFails (tests_by ours sigmas l) 3 → ⊥
  unfolding tests_by passes
  never_fourth f = false≢true (sym f.fails ∙ energies_pass (f.earlier 1 (omega arith)) (f.earlier 2 (omega arith)))

  some_quotient : FirstFails (tests_by ours sigmas l) 1 → all_usable quotients ≡ false
  unfolding tests_by passes
  some_quotient f = sym roots_by_quotients ∙ f.fails

  module _ (p : Prims) (allowed : Allowed p) where
    -- so no statistic is absent for its energies
    pub never_energy : statistic_by p sigmas l ≡ Err Energy → ⊥
    unfolding place_of
    never_energy e = never_fourth (cause-is-first ours sigmas l Energy (sym (statistic-same p allowed sigmas l) ∙ e))

    -- and one that is absent for its quotients or their roots has a quotient that can't be used
    pub quotient_unusable : statistic_by p sigmas l ≡ Err Quotients → all_usable quotients ≡ false
    unfolding place_of
    quotient_unusable e = some_quotient (cause-is-first ours sigmas l Quotients (sym (statistic-same p allowed sigmas l) ∙ e))

    -- a cause that is given is one of the first three
    pub cause-reached : (w : Absence) → statistic_by p sigmas l ≡ Err w → reached w ≡ true
    unfolding reached
    cause-reached Samples e = refl
    cause-reached Quotients e = refl
    cause-reached Line e = refl
    cause-reached Energy e = absurd (never_energy e)
