-- Laws of the output: what the records' buffer and the answer of detection give, and the first check that holds.
use Prim.Native.Nat.{ℕ, ◌+◌, ◌*◌, ◌/◌, ◌≤◌, ◌<◌, min}
use native.Mathlib.Nat.{zero-add}
use native.Mathlib.Omega.{arith}
use mathlib.Core.Bool.{Bool, true, false}
use mathlib.Core.Path.{◌≡◌, refl, sym, ap, ◌∙◌, subst}
use Rattle.std.specs.Prelude.{Option, None, Some, Result, Ok, Err, IfSome, OnOk, ⊤}
use Rattle.std.specs.Io.KnownBytes.{Appends}
use mathlib.Core.List.{List, [], ◌∷◌, ◌++◌}
use lib.ListN.{length, take, drop, length-take, take-append-drop}
use lib.Dec.{ltb}
use lib.Seq.{take_all}
use borrow.Author.Tests.{lt-ltb, le-ltb, ltb-true, ltb-false, ne_eqb}
use Rattle.io.specs.Counts.{IsPrefixLen}
use Rattle.tables.specs.declared.Refusal.{Refusal}
use Rattle.tables.specs.Refusal.{Check, number, unless, first_of, said_at, First}
use Rattle.tables.proofs.RefusalLaws as laws
use Rattle.record.specs.declared.Record.{Record}
use Rattle.record.specs.Layout.{spot_width, bytes_of, written}
use Rattle.detect.specs.Due.{due}
use Rattle.checks.specs.Checks.{detect_checks}
use Rattle.detect.specs.Detect.{Outcome, outcome}
use Rattle.detect.proofs.RefusalsLaws.{first_answered as detect-refuses, none_found as detect-finds}
use Rattle.detect.proofs.Promise.{answer-same, first-written}
use Rattle.text.specs.Text.{lines_of, lines_in, found_line, refused_line, Wrote}
use Rattle.text.proofs.TextLaws.{lines_of_bytes}
use Rattle.input.specs.Input.{set_from, thresholds_from, rows_from, cols_from, octave_from, area_from, level_from, list_checks}
use Rattle.input.proofs.InputLaws.{checks_long, checks_cut}
use Rattle.lister.specs.Detect.{detect_from, maps_from}
use Rattle.lister.specs.Output.{most_shown, printed, tile_output, checked_output, list_output, Begins}

-- text that was written from the start on
pub wrote_begins : {out out' : List ℕ} {r : ℕ} {text : List ℕ} → Wrote out out' 0 r text → Begins out' r text
wrote_begins w = record { count = w.count ∙ zero-add _; bytes = w.bytes }

pub begins_counts : {out : List ℕ} {r : ℕ} {text : List ℕ} → Begins out r text → IsPrefixLen r out
begins_counts {out} {r} {text} p =
    let e : r ≡ length (take r out) = p.count ∙ sym (ap length p.bytes) in
    (omega (arith, length-take r out), e)

-- ---- a buffer of 1,300 records

module _ (b out o : List ℕ) where
  abbrev found : List Record
  found = due (maps_from b)

  answer-told : {a : Result ℕ Refusal} → outcome a o ≡ detect_from b out → (detect_from b []).answer ≡ a
  unfolding detect_from
  answer-told e = answer-same (set_from b) (thresholds_from b) (rows_from b) (cols_from b) (octave_from b) (level_from b 0) (level_from b 1) (level_from b 2) (level_from b 3) [] out ∙ sym (ap (λ (x : Outcome). x.answer) e)

  -- the count, and the bytes of the first 1,300 records
  written-told : {n : ℕ} → length out ≡ 62400 → outcome (Ok n) o ≡ detect_from b out → (n ≡ length found) × (take (min most_shown (length found) * spot_width) o ≡ bytes_of (take most_shown found))
  unfolding detect_from
  written-told {n} long e =
      let w = first-written (set_from b) (thresholds_from b) (rows_from b) (cols_from b) (octave_from b) (level_from b 0) (level_from b 1) (level_from b 2) (level_from b 3) out n (sym (ap (λ (x : Outcome). x.answer) e)) in
      let bytes : take (written found out * spot_width) o ≡ bytes_of (take (length out / spot_width) found) = ap (λ (x : Outcome). take (written found out * spot_width) x.buffer) e ∙ w.1 in
      (w.0, rw long at bytes)

  lines_told : {n : ℕ} → length out ≡ 62400 → outcome (Ok n) o ≡ detect_from b out → lines_in (min most_shown n) o ≡ lines_of (take most_shown found)
  lines_told {n} long e =
      let w = written-told long e in
      let k : ℕ = min most_shown (length found) * spot_width in
      let parts : o ≡ bytes_of (take most_shown found) ++ drop k o = sym (take-append-drop k o) ∙ ap (λ (x : List ℕ). x ++ drop k o) w.1 in
      let count : min most_shown n ≡ length (take most_shown found) = ap (min most_shown) w.0 ∙ sym (length-take most_shown found) in
      ap (lines_in (min most_shown n)) parts ∙ rw count (lines_of_bytes (take most_shown found) (drop k o))

  -- what is printed where detection answers Found
  pub tile-found : {n : ℕ} → length out ≡ 62400 → outcome (Ok n) o ≡ detect_from b out → lines_in (min most_shown n) o ++ found_line n ≡ tile_output b
  unfolding tile_output printed
  tile-found {n} long e = ap (λ (x : List ℕ). x ++ found_line n) (lines_told long e) ∙ sym (ap (λ (a : Result ℕ Refusal). printed a found) (answer-told e))

  -- and where it refuses
  pub tile-refused : {w : Refusal} → outcome (Err w) o ≡ detect_from b out → refused_line (number w) ≡ tile_output b
  unfolding tile_output printed
  tile-refused e = sym (ap (λ (a : Result ℕ Refusal). printed a found) (answer-told e))

-- ---- refusals, case by case

module _ (b : List ℕ) where
  -- a header cut short is 2 at once
  pub short_header : length b < 560 → list_output b ≡ refused_line 2
  unfolding list_output list_checks first_of unless checked_output number
  short_header h = rw (lt-ltb (length b) 560 h)

  -- then 1 for a side above 60, whatever the input's length
  pub large_rows : 560 ≤ length b → 60 < rows_from b → list_output b ≡ refused_line 1
  unfolding list_output list_checks first_of unless checked_output number
  large_rows h r = rw (le-ltb (length b) 560 h, lt-ltb 60 (rows_from b) r)

  pub large_cols : 560 ≤ length b → rows_from b ≤ 60 → 60 < cols_from b → list_output b ≡ refused_line 1
  unfolding list_output list_checks first_of unless checked_output number
  large_cols h r c = rw (le-ltb (length b) 560 h, le-ltb 60 (rows_from b) r, lt-ltb 60 (cols_from b) c)

  -- then 2 for any wrong input length
  pub wrong_length : 560 ≤ length b → rows_from b ≤ 60 → cols_from b ≤ 60 → (length b ≡ 560 + 16 * area_from b → ⊥) → list_output b ≡ refused_line 2
  unfolding list_output list_checks first_of unless checked_output number
  wrong_length h r c l = rw (le-ltb (length b) 560 h, le-ltb 60 (rows_from b) r, le-ltb 60 (cols_from b) c, ne_eqb (length b) (560 + 16 * area_from b) l)

  -- then detection's own
  pub detection_refuses : (w : Refusal) → first_of (list_checks b) ≡ Ok tt → (detect_from b []).answer ≡ Err w → list_output b ≡ refused_line (number w)
  unfolding list_output checked_output tile_output printed
  detection_refuses w h e = rw (h, e)

  -- otherwise the first 1,300 records, and the full count
  pub list_found : (n : ℕ) → first_of (list_checks b) ≡ Ok tt → (detect_from b []).answer ≡ Ok n → list_output b ≡ lines_of (take most_shown (due (maps_from b))) ++ found_line n
  unfolding list_output checked_output tile_output printed
  list_found n h e = rw (h, e)

-- ---- refusals: the first check that holds, the input's own before detection's

-- what checks in front of others say: their first refusal, and where they are fine, the others'
unfoldable followed : Result ⊤ Refusal → Result ⊤ Refusal → Result ⊤ Refusal
followed (Err r) next = Err r
followed (Ok _) next = next

front-first : (cs ds : List Check) → first_of (cs ++ ds) ≡ followed (first_of cs) (first_of ds)
unfolding first_of followed unless
front-first [] ds = refl
front-first (c ∷ cs) ds = go c.holds (front-first cs ds)
  where
    go : (t : Bool) → first_of (cs ++ ds) ≡ followed (first_of cs) (first_of ds) → unless t c.refusal (first_of (cs ++ ds)) ≡ followed (unless t c.refusal (first_of cs)) (first_of ds)
    go true further = refl
    go false further = further

module _ (b : List ℕ) where
  -- detection's checks of what the input holds
  abbrev tile_checks : List Check
  tile_checks =
      detect_checks (length (level_from b 0)) (length (level_from b 1)) (length (level_from b 2)) (length (level_from b 3)) (rows_from b) (cols_from b) (octave_from b) (thresholds_from b) (set_from b)

  -- all checks of the list program, in their order
  abbrev all_checks : List Check
  all_checks = list_checks b ++ tile_checks

  -- the first check that holds is the one whose number is printed
  pub first-printed : (r : Refusal) → First all_checks r → list_output b ≡ refused_line (number r)
  unfolding list_output checked_output followed detect_from
  first-printed r f = go (first_of (list_checks b)) refl (sym (front-first (list_checks b) tile_checks) ∙ laws.refused-first all_checks r f)
    where
      go : (w : Result ⊤ Refusal) → first_of (list_checks b) ≡ w → followed w (first_of tile_checks) ≡ Err r → list_output b ≡ refused_line (number r)
      go (Err q) is e = let same : q ≡ r = cc in rw (is, same)
      go (Ok _) is e =
          detection_refuses b r is
          (detect-refuses (set_from b) (thresholds_from b) (rows_from b) (cols_from b) (octave_from b) (level_from b 0) (level_from b 1) (level_from b 2) (level_from b 3) [] r (laws.first-refused tile_checks r e))

  -- and where no check holds, the list is printed, and its full count
  pub none-printed : ((k : ℕ) → said_at all_checks k ≡ Ok tt) → list_output b ≡ lines_of (take most_shown (due (maps_from b))) ++ found_line (length (due (maps_from b)))
  unfolding followed detect_from
  none-printed h = go (first_of (list_checks b)) refl (sym (front-first (list_checks b) tile_checks) ∙ laws.fine-first all_checks h)
    where
      go : (w : Result ⊤ Refusal) → first_of (list_checks b) ≡ w → followed w (first_of tile_checks) ≡ Ok tt → list_output b ≡ lines_of (take most_shown (due (maps_from b))) ++ found_line (length (due (maps_from b)))
      go (Err q) is e = cc
      go (Ok _) is e =
          list_found b _ is
          (detect-finds (set_from b) (thresholds_from b) (rows_from b) (cols_from b) (octave_from b) (level_from b 0) (level_from b 1) (level_from b 2) (level_from b 3) [] (laws.first_fine tile_checks e))

-- ---- an input that is longer than the longest tile

-- what follows one byte more than the longest tile's changes nothing
pub list_cut : (b : List ℕ) → list_output (take 58161 b) ≡ list_output b
unfolding list_output checked_output
list_cut b = go (ltb 58160 (length b)) refl
  where
    go : (t : Bool) → ltb 58160 (length b) ≡ t → list_output (take 58161 b) ≡ list_output b
    go false e = ap list_output (take_all 58161 b (omega (arith, ltb-false 58160 (length b) e)))
    go true e =
        let h : 58160 < length b = ltb-true 58160 (length b) e in
        rw (checks_cut b h, checks_long b h)

-- what is written of a reader's bytes, of which so many are read
pub run_told : {U E : Type 0} (done : Result U E) (left old new : Option (List ℕ)) (size n r : ℕ) (b out : List ℕ) → size ≡ 58161
    → IfSome left (λ xs. take n b ≡ take size xs) → Begins out r (list_output (take n b)) → OnOk done (Appends old new (take r out))
    → OnOk done (IfSome left (λ xs. Appends old new (list_output xs)))
run_told (Err e) left old new size n r b out long read text wrote = tt
run_told (Ok u) None old new size n r b out long read text wrote = tt
run_told (Ok u) (Some xs) old new size n r b out long read text wrote =
    let cut : take n b ≡ take 58161 xs = read ∙ ap (λ (m : ℕ). take m xs) long in
    subst (Appends old new) (text.bytes ∙ ap list_output cut ∙ list_cut xs) wrote
