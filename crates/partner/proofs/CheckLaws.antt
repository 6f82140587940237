-- What the reader's checks let pass. Assumes nothing.
use Rattle.std.specs.Prelude.{Result, Ok, Err, ⊤}
use Prim.Native.Nat.{ℕ}
use mathlib.Core.Bool.{false}
use mathlib.Core.List.{List}
use mathlib.Core.Path.{◌≡◌, refl, sym, ◌∙◌}
use Rattle.tables.specs.declared.Set.{Set}
use Rattle.tables.specs.declared.Refusal.{Refusal}
use Rattle.tables.specs.declared.Thresholds.{Thresholds}
use Rattle.tables.specs.Refusal.{first_of}
use Rattle.tables.proofs.RefusalLaws.{first_over, first_stops}
use Rattle.checks.specs.Checks.{detect_checks}
use Rattle.join.specs.Join.{records_checks}
use Rattle.partner.specs.Partner.{partner_checks}

module _ (n0 n1 n2 n3 rows cols octave : ℕ) (th : Thresholds) (s : Set) (b : List ℕ) where
  -- where the reader's checks refuse nothing, detection's do not, nor do those of the list's records
  pub checks_fine : first_of (partner_checks n0 n1 n2 n3 rows cols octave th s b) ≡ Ok tt → (first_of (detect_checks n0 n1 n2 n3 rows cols octave th s) ≡ Ok tt) × (first_of (records_checks false rows cols b) ≡ Ok tt)
  unfolding partner_checks
  checks_fine h = go (first_of (detect_checks n0 n1 n2 n3 rows cols octave th s)) refl
    where
      go : (c : Result ⊤ Refusal) → first_of (detect_checks n0 n1 n2 n3 rows cols octave th s) ≡ c → (first_of (detect_checks n0 n1 n2 n3 rows cols octave th s) ≡ Ok tt) × (first_of (records_checks false rows cols b) ≡ Ok tt)
      go (Err r) e = let never : Ok tt ≡ Err r = sym h ∙ unfold partner_checks in first_stops (detect_checks n0 n1 n2 n3 rows cols octave th s) (records_checks false rows cols b) r e in (cc, cc)
      go (Ok _) e = (e, sym (first_over (detect_checks n0 n1 n2 n3 rows cols octave th s) (records_checks false rows cols b) e) ∙ unfold partner_checks in h)
