-- Runs: which refusal is answered, by its place; and demands 2 and 3 for the set found at the call. Assumes nothing.
use Rattle.std.specs.Prelude.{Ok, Err}
use Prim.Native.Nat.{ℕ}
use mathlib.Core.Bool.{Bool, true, false}
use mathlib.Core.Path.{◌≡◌, refl, sym, ap, ◌∙◌}
use mathlib.Core.List.{List}
use lib.ListN.{length}
use lib.Ieee.{Float}
use Rattle.tables.specs.declared.Set.{Set}
use Rattle.tables.specs.declared.Thresholds.{Thresholds}
use Rattle.tables.specs.declared.Refusal.{Refusal}
use Rattle.tables.specs.Refusal.{Check, First, said_at}
use Rattle.tables.proofs.RefusalLaws as laws
use Rattle.samples.specs.Level.{Maps, maps_of}
use Rattle.detect.specs.Due.{due}
use Rattle.detect.specs.Detect.{Outcome, detected, detect_of}
use Rattle.detect.proofs.RefusalsLaws.{answer-refused, buffer-kept, answer-found}
use Rattle.demands.specs.TwoMaps.{spared, Lossy, Struck, lists}
use Rattle.demands.proofs.Answers.{answered, two_answers}
use Rattle.desks.specs.Table.{slot_of, set_in, runnable}
use Rattle.desk_run.specs.Run.{run_checks, run_of}
use Rattle.desk_run.proofs.RunLaws.{not-runnable, run_detects}

module _ (t : List ℕ) (i : ℕ) (th : Thresholds) (rows cols octave : ℕ) (l0 l1 l2 l3 : List Float) (out : List ℕ) where
  -- the set found at the call
  abbrev found : Set
  found = set_in (slot_of t i)

  -- the map, to be judged under it
  abbrev maps : Maps
  maps = maps_of l0 l1 l2 l3 (record { rows = rows; cols = cols; octave = octave }) found th

  -- the checks of this run
  abbrev checks : List Check
  checks = run_checks t i th rows cols octave (length l0) (length l1) (length l2) (length l3)

  abbrev after : Outcome
  after = run_of t i th rows cols octave l0 l1 l2 l3 out

  -- a refusal that is answered is that of the first check that holds: 11, then detection's own
  pub run_refused-first : (r : Refusal) → after.answer ≡ Err r → First checks r
  unfolding run_of
  run_refused-first r e = laws.first-refused checks r (answer-refused _ maps out r e)

  -- and the first that holds is answered
  pub run_first_answered : (r : Refusal) → First checks r → after.answer ≡ Err r
  unfolding run_of detected
  run_first_answered r f = rw (laws.refused-first checks r f)

  -- a refusal writes nothing
  pub run_refused_keeps : (r : Refusal) → after.answer ≡ Err r → after.buffer ≡ out
  unfolding run_of
  run_refused_keeps r e = buffer-kept _ maps out r e

  -- where a run answers Found, no check holds
  pub run_found-none : (n : ℕ) → after.answer ≡ Ok n → (k : ℕ) → said_at checks k ≡ Ok tt
  unfolding run_of
  run_found-none n e = laws.first_fine checks (answer-found _ maps out n e)

  -- demand 2: what a run that is not refused lists is the whole list that is due under the set found at the call
  pub run_lists : (n : ℕ) → after.answer ≡ Ok n → after ≡ lists (due maps) out
  unfolding run_of
  run_lists n e = answered _ maps out n e

  -- it is then detection itself with that set
  pub run_is_detection : (n : ℕ) → after.answer ≡ Ok n → after ≡ detect_of found th rows cols octave l0 l1 l2 l3 out
  run_is_detection n e = go (runnable t i) refl
    where
      go : (b : Bool) → runnable t i ≡ b → after ≡ detect_of found th rows cols octave l0 l1 l2 l3 out
      go true r = run_detects t i th rows cols octave l0 l1 l2 l3 out r
      go false r = let z = sym (ap (λ (o : Outcome). o.answer) (not-runnable t i th rows cols octave l0 l1 l2 l3 out r)) ∙ e in cc

-- Demand 3: of two runs, from one slot or from two, of one table or of two, that find the same set and are not refused, the second, whose map lost pixels, answers
-- and lays just those of the first's records that have no lost pixel among their 21.
pub two_runs : (lost : ℕ → ℕ → Bool) (t t' : List ℕ) (i i' : ℕ) (s : Set) → set_in (slot_of t i) ≡ s → set_in (slot_of t' i') ≡ s
    → (th : Thresholds) (rows cols octave : ℕ) (a0 a1 a2 a3 b0 b1 b2 b3 : List Float)
    → Lossy lost (maps_of a0 a1 a2 a3 (record { rows = rows; cols = cols; octave = octave }) s th)
    (maps_of b0 b1 b2 b3 (record { rows = rows; cols = cols; octave = octave }) s th)
    → (out out' : List ℕ) (n n' : ℕ)
    → (run_of t i th rows cols octave a0 a1 a2 a3 out).answer ≡ Ok n
    → (run_of t' i' th rows cols octave b0 b1 b2 b3 out').answer ≡ Ok n'
    → Struck (spared lost cols) (due (maps_of a0 a1 a2 a3 (record { rows = rows; cols = cols; octave = octave }) s th)) out out'
    (run_of t i th rows cols octave a0 a1 a2 a3 out) (run_of t' i' th rows cols octave b0 b1 b2 b3 out')
two_runs lost t t' i i' s set set' th rows cols octave a0 a1 a2 a3 b0 b1 b2 b3 h out out' n n' first second =
    let one : run_of t i th rows cols octave a0 a1 a2 a3 out ≡ detect_of s th rows cols octave a0 a1 a2 a3 out = run_is_detection t i th rows cols octave a0 a1 a2 a3 out n first ∙ ap (λ (x : Set). detect_of x th rows cols octave a0 a1 a2 a3 out) set in
    let two : run_of t' i' th rows cols octave b0 b1 b2 b3 out' ≡ detect_of s th rows cols octave b0 b1 b2 b3 out' = run_is_detection t' i' th rows cols octave b0 b1 b2 b3 out' n' second ∙ ap (λ (x : Set). detect_of x th rows cols octave b0 b1 b2 b3 out') set' in
    let struck = two_answers lost s th rows cols octave a0 a1 a2 a3 b0 b1 b2 b3 h out out' n n' (ap (λ (o : Outcome). o.answer) (sym one) ∙ first) (ap (λ (o : Outcome). o.answer) (sym two) ∙ second) in
    record { whole = one ∙ struck.whole; kept = two ∙ struck.kept }
