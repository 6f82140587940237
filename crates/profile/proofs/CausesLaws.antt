-- A statistic is absent for a cause exactly where the cause's test is the first that fails, and given exactly where each passes. Assumes nothing.
use Rattle.std.specs.Prelude.{Result, Ok, Err}
use Prim.Native.Nat.{ℕ, zero, suc}
use native.Mathlib.Omega.{arith}
use mathlib.Core.Path.{◌≡◌, refl, sym, ◌∙◌}
use mathlib.Core.List.{List}
use mathlib.Core.Bool.{false≢true}
use mathlib.Core.Logic.{◌⊎◌}
use lib.Ieee.{Float}
use Rattle.fit.specs.Prims.{Prims}
use Rattle.profile.specs.Profile.{ratio_of, fitted_of, scaled_by, statistic_by}
use Rattle.profile.specs.Tests.{Test, first_told, passes, told_at, FirstFails, AllPass}
use Rattle.profile.specs.Causes.{scaled_roots, roots_test, slope_of, line_test, off_energy, energy_test, tests_by, quotient_by, place_of}
use Rattle.profile.specs.declared.Absence.{Absence}
use Rattle.profile.specs.declared.Absence.TheVariants.{Samples, Quotients, Line, Energy}
use Rattle.profile.proofs.TestsLaws.{Told, first_absent, all-given, all_or_cause, absent-first, present_all}

value-not-absent : (v : Float) (w : Absence) → Ok v ≡ Err w → ⊥
value-not-absent v w e = let z : ◌≡◌ {A = ℕ} 0 1 = cc in omega arith

one-cause : (w w' : Absence) → ◌≡◌ {A = Result Float Absence} (Err w) (Err w') → w ≡ w'
one-cause w w' e = cc

one_value : (v v' : Float) → ◌≡◌ {A = Result Float Absence} (Ok v) (Ok v') → v ≡ v'
one_value v v' e = cc

module _ (p : Prims) (sigmas l : List Float) where
  abbrev tests : List (Test (Result Float Absence))
  tests = tests_by p sigmas l

  abbrev given : Result Float Absence
  given = Ok (quotient_by p sigmas l)

  is-told : statistic_by p sigmas l ≡ first_told given tests
  unfolding statistic_by scaled_by fitted_of ratio_of first_told tests_by roots_test line_test energy_test scaled_roots slope_of off_energy quotient_by
  is-told = refl

  tells : (w : Absence) → told_at given tests (place_of w) ≡ Err w
  unfolding told_at tests_by place_of
  tells Samples = refl
  tells Quotients = refl
  tells Line = refl
  tells Energy = refl

  placed : (k : ℕ) → FirstFails tests k → (w : Absence) × (place_of w ≡ k)
  unfolding passes tests_by place_of
  placed zero f = (Samples, refl)
  placed (suc zero) f = (Quotients, refl)
  placed (suc (suc zero)) f = (Line, refl)
  placed (suc (suc (suc zero))) f = (Energy, refl)
  placed (suc (suc (suc (suc k)))) f = absurd (false≢true (sym f.fails))

  told : Told tests given (statistic_by p sigmas l) Err place_of
  told = record { is = is-told; tells = tells; placed = placed; one = one-cause; apart = value-not-absent (quotient_by p sigmas l) }

  -- an absent statistic's cause is the first test that fails
  pub cause-is-first : (w : Absence) → statistic_by p sigmas l ≡ Err w → FirstFails tests (place_of w)
  cause-is-first = absent-first told

  -- the first test that fails is the cause given, and no other
  pub first-is-cause : (w : Absence) → FirstFails tests (place_of w) → statistic_by p sigmas l ≡ Err w
  first-is-cause = first_absent told

  -- where each passes, the quotient of the energies is given
  pub passed-given : AllPass tests → statistic_by p sigmas l ≡ given
  passed-given = all-given told

  -- a given statistic has passed each, and is that quotient
  pub given-passed : (r : Float) → statistic_by p sigmas l ≡ Ok r → AllPass tests × (r ≡ quotient_by p sigmas l)
  given-passed r e =
      let a = present_all told (λ w h. value-not-absent r w (sym e ∙ h)) in
      (a, one_value r (quotient_by p sigmas l) (sym e ∙ passed-given a))

  -- each passes, or one of the four is the first that fails; `first_once` and `first-not-all` exclude a second answer
  pub passed_or_first : AllPass tests ⊎ ((w : Absence) × FirstFails tests (place_of w))
  passed_or_first = all_or_cause told
