-- Refusals: the first check that holds, by its place; nothing written; and none holds exactly where the call answers Found.
use Rattle.std.specs.Prelude.{Result, Ok, Err, ⊤}
use Prim.Native.Nat.{ℕ, zero, suc, ◌<◌}
use native.Mathlib.Omega.{arith}
use mathlib.Core.Bool.{true}
use mathlib.Core.List.{List}
use mathlib.Core.Path.{◌≡◌, refl, ap}
use lib.ListN.{length}
use lib.Ieee.{Float}
use Rattle.tables.specs.declared.Set.{Set}
use Rattle.tables.specs.declared.Thresholds.{Thresholds}
use Rattle.tables.specs.declared.Refusal.{Refusal}
use Rattle.tables.specs.declared.Refusal.TheVariants as refusal
use Rattle.tables.specs.Refusal.{Check, number, unless, said_at, First, any_nan}
use Rattle.tables.proofs.RefusalLaws as laws
use Rattle.samples.specs.Level.{Maps, maps_of}
use Rattle.detect.specs.Due.{due}
use Rattle.checks.specs.Checks.{detect_checks}
use Rattle.detect.specs.Detect.{Outcome, detected, detect_of}
use Rattle.detect.proofs.DetectLaws.{Passed, checks_passed}

-- ---- what an answer tells of the checks

pub answer-refused : (w : Result ⊤ Refusal) (m : Maps) (out : List ℕ) (r : Refusal) → (detected w m out).answer ≡ Err r → w ≡ Err r
unfolding detected
answer-refused (Err q) m out r e = cc
answer-refused (Ok _) m out r e = cc

pub buffer-kept : (w : Result ⊤ Refusal) (m : Maps) (out : List ℕ) (r : Refusal) → (detected w m out).answer ≡ Err r → (detected w m out).buffer ≡ out
unfolding detected
buffer-kept (Err q) m out r e = refl
buffer-kept (Ok _) m out r e = cc

pub answer-found : (w : Result ⊤ Refusal) (m : Maps) (out : List ℕ) (n : ℕ) → (detected w m out).answer ≡ Ok n → w ≡ Ok tt
unfolding detected
answer-found (Err q) m out n e = cc
answer-found (Ok _) m out n e = refl

-- ---- the refusals of a call

module _ (s : Set) (th : Thresholds) (rows cols octave : ℕ) (l0 l1 l2 l3 : List Float) (out : List ℕ) where
  abbrev maps : Maps
  maps = maps_of l0 l1 l2 l3 (record { rows = rows; cols = cols; octave = octave }) s th

  -- the checks of this call
  abbrev checks : List Check
  checks = detect_checks (length l0) (length l1) (length l2) (length l3) rows cols octave th s

  abbrev after : Outcome
  after = detect_of s th rows cols octave l0 l1 l2 l3 out

  -- a refusal that is answered is that of the first check that holds
  pub refused-first : (r : Refusal) → after.answer ≡ Err r → First checks r
  unfolding detect_of
  refused-first r e = laws.first-refused checks r (answer-refused _ maps out r e)

  -- and the first that holds is answered
  pub first_answered : (r : Refusal) → First checks r → after.answer ≡ Err r
  unfolding detect_of detected
  first_answered r f = rw (laws.refused-first checks r f)

  -- a refusal writes nothing
  pub refused_keeps : (r : Refusal) → after.answer ≡ Err r → after.buffer ≡ out
  unfolding detect_of
  refused_keeps r e = buffer-kept _ maps out r e

  -- where a call answers Found, no check holds
  pub found_none : (n : ℕ) → after.answer ≡ Ok n → (k : ℕ) → said_at checks k ≡ Ok tt
  unfolding detect_of
  found_none n e = laws.first_fine checks (answer-found _ maps out n e)

  -- its sides, levels, octave and thresholds are then what the checks ask for
  pub found_passed : (n : ℕ) → after.answer ≡ Ok n → Passed (length l0) (length l1) (length l2) (length l3) rows cols octave th
  unfolding detect_of
  found_passed n e = checks_passed _ _ _ _ _ _ _ th s (answer-found _ maps out n e)

  -- and where no check holds, the call answers Found, with the count of the whole list
  pub none_found : ((k : ℕ) → said_at checks k ≡ Ok tt) → after.answer ≡ Ok (length (due maps))
  unfolding detect_of detected
  none_found h = rw (laws.fine-first checks h)

  -- a threshold is a NaN, and no check before the thresholds' refuses: those at the places 0, 1 and 2
  pub record OnlyNan : Type 0 where
    pub earlier : (k : ℕ) → k < 3 → said_at checks k ≡ Ok tt
    pub nan : any_nan th ≡ true

  -- the check that refuses with 8 is the thresholds'
  eight_at : (place : ℕ) → said_at checks place ≡ Err refusal.Thresholds → ((k : ℕ) → k < place → said_at checks k ≡ Ok tt) → OnlyNan
  unfolding said_at detect_checks number
  eight_at zero said before = let is = (laws.said_bad _ refusal.Size _ said).1 in let z : ⊥ = omega (arith, ap number is) in absurd z
  eight_at (suc zero) said before = let is = (laws.said_bad _ refusal.Level _ said).1 in let z : ⊥ = omega (arith, ap number is) in absurd z
  eight_at (suc (suc zero)) said before = let is = (laws.said_bad _ refusal.Octave _ said).1 in let z : ⊥ = omega (arith, ap number is) in absurd z
  eight_at (suc (suc (suc zero))) said before = record { earlier = before; nan = (laws.said_bad (any_nan th) refusal.Thresholds _ said).0 }
  eight_at (suc (suc (suc (suc zero)))) said before = let is = (laws.said_bad _ refusal.BadSet _ said).1 in let z : ⊥ = omega (arith, ap number is) in absurd z
  eight_at (suc (suc (suc (suc (suc k))))) said before = let never : ◌≡◌ {A = ℕ} 0 1 = cc in let z : ⊥ = omega (arith, never) in absurd z

  -- 8 is answered only where that is so
  pub eight_only-nan : after.answer ≡ Err refusal.Thresholds → OnlyNan
  eight_only-nan e = let first = refused-first refusal.Thresholds e in eight_at first.place first.holds first.earlier

  thresholds_said : any_nan th ≡ true → said_at checks 3 ≡ Err refusal.Thresholds
  unfolding said_at detect_checks unless
  thresholds_said e = rw e

  -- and wherever it is so
  pub only-nan_eight : OnlyNan → after.answer ≡ Err refusal.Thresholds
  only-nan_eight p = first_answered refusal.Thresholds (record { place = 3; holds = thresholds_said p.nan; earlier = p.earlier })
