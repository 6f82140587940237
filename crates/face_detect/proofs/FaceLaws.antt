-- What detection's face leaves of an outcome, and when it answers 4.
use Rattle.std.specs.Prelude.{Result, Ok, Err}
use Prim.Native.Nat.{ℕ, zero, suc, ◌<◌}
use native.Mathlib.Omega.{arith}
use mathlib.Core.Bool.{false, not}
use mathlib.Core.List.{List}
use mathlib.Core.Path.{◌≡◌, refl, sym, ap, ◌∙◌}
use borrow.Author.Tests.{not-true}
use lib.ListN.{length}
use lib.Ieee.{Float}
use Rattle.tables.specs.declared.Set.{Set}
use Rattle.tables.specs.declared.Thresholds.{Thresholds}
use Rattle.tables.specs.declared.Refusal.{Refusal}
use Rattle.tables.specs.declared.Refusal.TheVariants as refused
use Rattle.tables.specs.declared.Refusal.TheVariants.{Size, Level, Octave, BadSet}
use Rattle.tables.specs.Set.{good, good_record}
use Rattle.tables.specs.Refusal.{number, Check, unless, said_at, read_or_blank}
use Rattle.tables.proofs.SetLaws.{read_good}
use Rattle.tables.proofs.RefusalLaws.{said_bad}
use Rattle.checks.specs.Checks.{detect_checks}
use Rattle.detect.specs.Detect.{Outcome, outcome, detect_of}
use Rattle.detect.proofs.RefusalsLaws.{refused-first, first_answered}
use Rattle.face.specs.Face.{Left, left}
use Rattle.face_detect.specs.Face.{packed, left_by, detect_face}

pub left_by_lem : {a : Result ℕ Refusal} {o : List ℕ} {r v : ℕ} {d : Outcome} → r ≡ (packed a).number → v ≡ (packed a).value → outcome a o ≡ d → left r v o ≡ left_by d
left_by_lem p q e = rw (p, q) (ap left_by e)

-- a call whose record is bad, and that no check before the set's refuses: those at the places 0 to 3 of detection's
pub record OnlySet (b : List ℕ) (th : Thresholds) (rows cols octave : ℕ) (l0 l1 l2 l3 : List Float) : Type 0 where
  pub earlier : (k : ℕ) → k < 4 → said_at (detect_checks (length l0) (length l1) (length l2) (length l3) rows cols octave th (read_or_blank b)) k ≡ Ok tt
  pub record-bad : good_record b ≡ false

module _ (b : List ℕ) (th : Thresholds) (rows cols octave : ℕ) (l0 l1 l2 l3 : List Float) (out : List ℕ) where
  abbrev after : Left
  after = detect_face b th rows cols octave l0 l1 l2 l3 out

  abbrev s : Set
  s = read_or_blank b

  abbrev answer : Result ℕ Refusal
  answer = (detect_of s th rows cols octave l0 l1 l2 l3 out).answer

  -- the checks of this call
  abbrev checks : List Check
  checks = detect_checks (length l0) (length l1) (length l2) (length l3) rows cols octave th s

  set_said : good_record b ≡ false → said_at checks 4 ≡ Err BadSet
  unfolding said_at detect_checks unless
  set_said e = rw (read_good b, e)

  -- a refusal with the number 4 by the check at some place is the set's
  four_at : (place : ℕ) (w : Refusal) → number w ≡ 4 → said_at checks place ≡ Err w → ((k : ℕ) → k < place → said_at checks k ≡ Ok tt) → OnlySet b th rows cols octave l0 l1 l2 l3
  unfolding said_at detect_checks number
  four_at zero w four said before = let is = (said_bad _ Size w said).1 in let z : ⊥ = omega (arith, ap number is, four) in absurd z
  four_at (suc zero) w four said before = let is = (said_bad _ Level w said).1 in let z : ⊥ = omega (arith, ap number is, four) in absurd z
  four_at (suc (suc zero)) w four said before = let is = (said_bad _ Octave w said).1 in let z : ⊥ = omega (arith, ap number is, four) in absurd z
  four_at (suc (suc (suc zero))) w four said before = let is = (said_bad _ refused.Thresholds w said).1 in let z : ⊥ = omega (arith, ap number is, four) in absurd z
  four_at (suc (suc (suc (suc zero)))) w four said before = record {
    earlier = before;
    record-bad = sym (read_good b) ∙ not-true (good s) (said_bad (not (good s)) BadSet w said).0;
  }
  four_at (suc (suc (suc (suc (suc k))))) w four said before = let never : ◌≡◌ {A = ℕ} 0 1 = cc in let z : ⊥ = omega (arith, never) in absurd z

  -- 4 is answered only where the record is bad and no check before the set's holds
  pub four_only-set : after.number ≡ 4 → OnlySet b th rows cols octave l0 l1 l2 l3
  unfolding detect_face number
  four_only-set four = go answer refl four
    where
      go : (a : Result ℕ Refusal) → answer ≡ a → (packed a).number ≡ 4 → OnlySet b th rows cols octave l0 l1 l2 l3
      go (Ok n) e h = let z : ⊥ = omega arith in absurd z
      go (Err w) e h =
          let first = refused-first s th rows cols octave l0 l1 l2 l3 out w e in
          four_at first.place w h first.holds first.earlier

  -- and it is answered wherever that is so
  pub only-set_four : OnlySet b th rows cols octave l0 l1 l2 l3 → after.number ≡ 4
  unfolding detect_face number
  only-set_four p = rw (first_answered s th rows cols octave l0 l1 l2 l3 out BadSet (record { place = 4; holds = set_said p.record-bad; earlier = p.earlier }))
