-- A size is missing for a cause exactly where the cause's test is the first that fails, and given exactly where both pass. Assumes nothing.
use Rattle.std.specs.Prelude.{Result, Ok, Err}
use Prim.Native.Nat.{ℕ, zero, suc}
use mathlib.Core.Path.{◌≡◌, refl, sym, ◌∙◌}
use mathlib.Core.List.{List}
use mathlib.Core.Bool.{Bool, false≢true}
use mathlib.Core.Logic.{◌⊎◌}
use lib.Ieee.{Float}
use Rattle.tables.specs.declared.Set.{Set}
use Rattle.tables.specs.declared.Missing.{Missing}
use Rattle.tables.specs.declared.Missing.TheVariants.{Polarity, Range}
use Rattle.fit.specs.Prims.{Prims}
use Rattle.profile.specs.Tests.{Test, first_told, passes, told_at, FirstFails, AllPass}
use Rattle.profile.proofs.TestsLaws.{Told, first_absent, all-given, all_or_cause, absent-first, present_all}
use Rattle.size.specs.Correct.{moved_of, corrected_by}
use Rattle.size.specs.Claims.{trusted_test, move_by, range_test, tests_by, sigma_by, test_of}
use Rattle.size.proofs.CorrectLaws.{no_size_no_sigma}

one-cause : (w w' : Missing) → ◌≡◌ {A = Result Float Missing} (Err w) (Err w') → w ≡ w'
one-cause w w' e = cc

one-sigma : (r r' : Float) → ◌≡◌ {A = Result Float Missing} (Ok r) (Ok r') → r ≡ r'
one-sigma r r' e = cc

module _ (p : Prims) (s : Set) (l : List Float) (anchor : Float) (is_max : Bool) where
  abbrev tests : List (Test (Result Float Missing))
  tests = tests_by p s l anchor is_max

  abbrev answer : Result Float Missing
  answer = corrected_by p s l anchor is_max

  abbrev given : Result Float Missing
  given = Ok (sigma_by p s l anchor is_max)

  is-told : answer ≡ first_told given tests
  unfolding corrected_by moved_of first_told tests_by trusted_test range_test move_by sigma_by
  is-told = refl

  tells : (w : Missing) → told_at given tests (test_of w) ≡ Err w
  unfolding told_at tests_by test_of
  tells Polarity = refl
  tells Range = refl

  placed : (k : ℕ) → FirstFails tests k → (w : Missing) × (test_of w ≡ k)
  unfolding passes tests_by test_of
  placed zero f = (Polarity, refl)
  placed (suc zero) f = (Range, refl)
  placed (suc (suc k)) f = absurd (false≢true (sym f.fails))

  told : Told tests given answer Err test_of
  told = record { is = is-told; tells = tells; placed = placed; one = one-cause; apart = λ w e. no_size_no_sigma w (sigma_by p s l anchor is_max) (sym e) }

  -- a missing size's cause is the first test that fails
  pub cause-is-first : (w : Missing) → answer ≡ Err w → FirstFails tests (test_of w)
  cause-is-first = absent-first told

  -- the first test that fails is the cause given, and no other
  pub first-is-cause : (w : Missing) → FirstFails tests (test_of w) → answer ≡ Err w
  first-is-cause = first_absent told

  -- where both pass, the sigma is given
  pub passed-given : AllPass tests → answer ≡ given
  passed-given = all-given told

  -- a given one has passed both
  pub given-passed : (r : Float) → answer ≡ Ok r → AllPass tests × (r ≡ sigma_by p s l anchor is_max)
  given-passed r e =
      let a = present_all told (λ w h. no_size_no_sigma w r (sym h ∙ e)) in
      (a, one-sigma r (sigma_by p s l anchor is_max) (sym e ∙ passed-given a))

  -- both pass, or one of the two is the first that fails; `first_once` and `first-not-all` exclude a second answer
  pub passed_or_first : AllPass tests ⊎ ((w : Missing) × FirstFails tests (test_of w))
  passed_or_first = all_or_cause told
