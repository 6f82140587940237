-- Laws of detection's checks, and of what it leaves.
use Rattle.std.specs.Prelude.{Ok}
use Prim.Native.Nat.{ℕ, ◌*◌, ◌≤◌}
use native.Mathlib.Nat.{zero-add}
use mathlib.Core.Bool.{not}
use mathlib.Core.List.{List}
use mathlib.Core.Path.{◌≡◌}
use lib.Dec.{ltb, eqb}
use borrow.Author.Tests.{ltb-false, eqb-true, not-false}
use Rattle.float.proofs.Bools.{neither}
use Rattle.tables.specs.declared.Set.{Set}
use Rattle.tables.specs.declared.Thresholds.{Thresholds}
use Rattle.tables.specs.Refusal.{first_of}
use Rattle.tables.proofs.RefusalLaws.{unless-fine}
use Rattle.tables.proofs.ThresholdsLaws.{Numbers, passed_numbers}
use Rattle.record.proofs.LayoutLaws.{lay-laid}
use Rattle.samples.specs.Level.{Maps, Sized}
use Rattle.record.specs.Layout.{Laid}
use Rattle.detect.specs.Due.{due}
use Rattle.checks.specs.Checks.{detect_checks}
use Rattle.detect.specs.Detect.{outcome, detected}

-- what no check refuses
pub record Passed (n0 n1 n2 n3 rows cols octave : ℕ) (th : Thresholds) : Type 0 where
  pub sized : Sized (record { rows = rows; cols = cols; octave = octave }) n0 n1 n2 n3
  pub octave-most : octave ≤ 5
  pub numbers : Numbers th

pub checks_passed : (n0 n1 n2 n3 rows cols octave : ℕ) (th : Thresholds) (s : Set) → first_of (detect_checks n0 n1 n2 n3 rows cols octave th s) ≡ Ok tt
    → Passed n0 n1 n2 n3 rows cols octave th
unfolding detect_checks first_of
checks_passed n0 n1 n2 n3 rows cols octave th s h =
    let sides = unless-fine _ _ _ h in
    let levels = unless-fine _ _ _ sides.1 in
    let octaves = unless-fine _ _ _ levels.1 in
    let limits = unless-fine _ _ _ octaves.1 in
    let side = neither (ltb 4096 rows) (ltb 4096 cols) sides.0 in
    let first = neither (not (eqb n0 (rows * cols))) _ levels.0 in
    let second = neither (not (eqb n1 (rows * cols))) _ first.1 in
    let third = neither (not (eqb n2 (rows * cols))) (not (eqb n3 (rows * cols))) second.1 in
    record {
      sized = record {
        rows-most = ltb-false _ _ side.0;
        cols-most = ltb-false _ _ side.1;
        long0 = eqb-true _ _ (not-false (eqb n0 (rows * cols)) first.0);
        long1 = eqb-true _ _ (not-false (eqb n1 (rows * cols)) second.0);
        long2 = eqb-true _ _ (not-false (eqb n2 (rows * cols)) third.0);
        long3 = eqb-true _ _ (not-false (eqb n3 (rows * cols)) third.1);
      };
      octave-most = ltb-false _ _ octaves.0;
      numbers = passed_numbers th limits.0;
    }

-- the whole list laid from the buffer's start, and its length, are what a call that no check refuses leaves and answers
pub found-laid : {out out' : List ℕ} {n : ℕ} (m : Maps) → Laid out out' 0 n (due m) → outcome (Ok n) out' ≡ detected (Ok tt) m out
unfolding detected
found-laid m p = rw (p.count, zero-add, p.bytes, lay-laid)
