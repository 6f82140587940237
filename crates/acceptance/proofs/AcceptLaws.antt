-- What the reader's promise settles: yes exactly when the bytes are those of the list that is due, otherwise the one finding that holds, and refusals before any finding. Assumes nothing.
use Rattle.std.specs.Prelude.{Result, Ok, Err, ⊤}
use Prim.Native.Nat.{ℕ, suc, ◌*◌, ◌%◌, ◌≤◌, ◌<◌}
use native.Mathlib.Omega.{arith}
use mathlib.Core.Bool.{true, false}
use mathlib.Core.List.{List}
use mathlib.Core.Logic.{◌⊎◌, ◌↔◌}
use mathlib.Core.Path.{◌≡◌, refl, sym, ap, ◌∙◌, subst}
use lib.Dec.{eqb}
use lib.ListN.{length}
use lib.Ieee.{Float}
use borrow.Author.Tests.{eqb-true, not-false}
use Rattle.tables.specs.declared.Set.{Set}
use Rattle.tables.specs.declared.Thresholds.{Thresholds}
use Rattle.tables.specs.declared.Refusal.{Refusal}
use Rattle.tables.specs.declared.Refusal.TheVariants.{Records}
use Rattle.tables.specs.Refusal.{Check, first_of, said_at, First}
use Rattle.tables.proofs.RefusalLaws as order
use Rattle.record.specs.declared.Record.{Record}
use Rattle.record.specs.Layout.{spot_width, record_at, bytes_of}
use Rattle.record.specs.Readable.{readable}
use Rattle.record.proofs.LayoutLaws.{length-bytes_of}
use Rattle.join.specs.Join.{records_checks}
use Rattle.join.specs.Claims.{WrongLength, FirstBad, Fault}
use Rattle.join.proofs.RefusalsLaws.{records_fault, fault_refused}
use Rattle.join.proofs.TakenLaws.{taken_listed}
use Rattle.checks.specs.Checks.{detect_checks}
use Rattle.samples.specs.Level.{Maps, maps_of}
use Rattle.detect.specs.Due.{due}
use Rattle.detect.proofs.DetectLaws.{checks_passed}
use Rattle.demands.proofs.Accepted.{join_accepts}
use Rattle.demands.proofs.Held.{list_held}
use Rattle.demands.proofs.Places.{stands-there}
use Rattle.follow.specs.Follow.{count_of, finding_of}
use Rattle.follow.specs.declared.Finding.{Finding}
use Rattle.follow.specs.declared.Finding.TheVariants.{Yes}
use Rattle.partner.specs.Partner.{partner_checks, replied_of, partner_of}
use Rattle.acceptance.specs.Meaning.{Agree, Means, Differs, AllHeld}
use Rattle.acceptance.specs.Claims.{Sub}
use Rattle.acceptance.proofs.FindingLaws.{finding_means, finding_only, yes_exactly, read_there, due_agrees, first_differing}

-- ---- over the outcome of the checks

replied_refused : (c : Result ⊤ Refusal) (ds : List Record) (b : List ℕ) (r : Refusal) → replied_of c ds b ≡ Err r → c ≡ Err r
unfolding replied_of
replied_refused (Err q) ds b r e = cc
replied_refused (Ok _) ds b r e = cc

replied_found : (c : Result ⊤ Refusal) (ds : List Record) (b : List ℕ) (a : Finding) → replied_of c ds b ≡ Ok a → (c ≡ Ok tt) × (finding_of ds b ≡ a)
unfolding replied_of
replied_found (Err q) ds b a e = (cc, cc)
replied_found (Ok _) ds b a e = (refl, cc)

-- a list that passes the checks of its records is whole records
records_whole : (rows cols : ℕ) (b : List ℕ) → first_of (records_checks false rows cols b) ≡ Ok tt → length b ≡ count_of b * spot_width
unfolding first_of
records_whole rows cols b h =
    let whole : length b % spot_width ≡ 0 = eqb-true _ _ (not-false (eqb (length b % spot_width) 0) (order.unless-fine _ _ _ h).0) in
    omega arith

-- ---- a call

module _ (s : Set) (th : Thresholds) (rows cols octave : ℕ) (l0 l1 l2 l3 : List Float) where
  abbrev maps : Maps
  maps = maps_of l0 l1 l2 l3 (record { rows = rows; cols = cols; octave = octave }) s th

  -- the list that is due
  abbrev ds : List Record
  ds = due maps

  abbrev reply : List ℕ → Result Finding Refusal
  reply b = partner_of s th rows cols octave l0 l1 l2 l3 b

  -- its checks, and detection's, which stand before them
  abbrev checks : List ℕ → List Check
  checks b = partner_checks (length l0) (length l1) (length l2) (length l3) rows cols octave th s b

  abbrev detection : List Check
  detection = detect_checks (length l0) (length l1) (length l2) (length l3) rows cols octave th s

  -- ---- its refusals

  -- a refusal that is answered is that of the first check that holds: 1, 2, 3, 8, 4 as in detection, then 5 for the length, 5 for a record
  pub refused-first : (b : List ℕ) (r : Refusal) → reply b ≡ Err r → First (checks b) r
  unfolding partner_of
  refused-first b r e = order.first-refused (checks b) r (replied_refused _ ds b r e)

  -- and the first that holds is answered
  pub first_answered : (b : List ℕ) (r : Refusal) → First (checks b) r → reply b ≡ Err r
  unfolding partner_of replied_of
  first_answered b r f = rw (order.refused-first (checks b) r f)

  -- where something is found, no check holds
  pub found_none : (b : List ℕ) (a : Finding) → reply b ≡ Ok a → (k : ℕ) → said_at (checks b) k ≡ Ok tt
  unfolding partner_of
  found_none b a e = order.first_fine (checks b) (replied_found _ ds b a e).0

  -- and where no check holds, what is found of the due list is answered
  pub none_found : (b : List ℕ) → ((k : ℕ) → said_at (checks b) k ≡ Ok tt) → reply b ≡ Ok (finding_of ds b)
  unfolding partner_of replied_of
  none_found b h = rw (order.fine-first (checks b) h)

  -- what detection refuses, the reader refuses, whatever the list
  pub detection_refused : (b : List ℕ) (r : Refusal) → first_of detection ≡ Err r → reply b ≡ Err r
  unfolding partner_of replied_of partner_checks
  detection_refused b r e = rw (order.first_stops detection (records_checks false rows cols b) r e)

  -- ---- what is found, where detection's checks pass

  module _ (fine : first_of detection ≡ Ok tt) where
    sides : (rows ≤ 4096) × (cols ≤ 4096)
    sides = let p = checks_passed (length l0) (length l1) (length l2) (length l3) rows cols octave th s fine in (p.sized.rows-most, p.sized.cols-most)

    pub all_held : AllHeld ds
    all_held i r at = list_held maps r sides.0 sides.1 (record { place = i; there = at })

    replied : (b : List ℕ) → reply b ≡ replied_of (first_of (records_checks false rows cols b)) ds b
    unfolding partner_of partner_checks
    replied b = rw (order.first_over detection (records_checks false rows cols b) fine)

    -- what it refuses then is 5: the list's length is no multiple of 48, with the whole record count, or a record is bad, with the first one's index
    pub refused_fault : (b : List ℕ) (r : Refusal) → reply b ≡ Err r → Fault false rows cols b r
    refused_fault b r e = records_fault false rows cols b r (replied_refused _ ds b r (sym (replied b) ∙ e))

    -- and such a list is refused, whatever else is found of it: a bad record far behind the first difference too
    pub fault_answered : (b : List ℕ) (i : ℕ) → WrongLength false b i ⊎ FirstBad false rows cols b i → reply b ≡ Err (Records i)
    unfolding replied_of
    fault_answered b i f = replied b ∙ rw (fault_refused false rows cols b i f)

    -- ---- lists of due records

    -- each of them is read back
    sub_held : (gs : List Record) → Sub gs ds → AllHeld gs
    sub_held gs sub i r at = let there = sub r (record { place = i; there = at }) in list_held maps r sides.0 sides.1 there

    sub-readable : (gs : List Record) → Sub gs ds → (k : ℕ) → k < length gs → readable rows cols (record_at (bytes_of gs) k) ≡ true
    sub-readable gs sub k h =
        let long : length (bytes_of gs) ≡ length gs * spot_width = length-bytes_of gs in
        let whole : length (bytes_of gs) ≡ count_of (bytes_of gs) * spot_width = omega arith in
        let held = sub_held gs sub in
        let back = read_there gs held (bytes_of gs) whole k (due_agrees gs held (bytes_of gs) whole refl (suc k) h) in
        rw back (join_accepts maps _ (sub _ (record { place = k; there = stands-there gs k (record_at (bytes_of gs) 0) h })))

    -- and so the records pass their checks
    sub_checked : (gs : List Record) → Sub gs ds → first_of (records_checks false rows cols (bytes_of gs)) ≡ Ok tt
    sub_checked gs sub = taken_listed rows cols (length gs) (bytes_of gs) (record { rows-most = sides.0; cols-most = sides.1; long = length-bytes_of gs; fair = sub-readable gs sub })

    -- where they do, what is found is answered
    pub checked_found : (b : List ℕ) (a : Finding) → first_of (records_checks false rows cols b) ≡ Ok tt → finding_of ds b ≡ a → reply b ≡ Ok a
    unfolding replied_of
    checked_found b a c e = replied b ∙ rw c (ap Ok e)

    -- and so of lists of due records
    pub sub-found : (gs : List Record) (a : Finding) → Sub gs ds → finding_of ds (bytes_of gs) ≡ a → reply (bytes_of gs) ≡ Ok a
    sub-found gs a sub e = checked_found (bytes_of gs) a (sub_checked gs sub) e

    -- ---- the promise in the request's words

    -- Yes is answered exactly when the bytes are those of the list that is due.
    pub yes_due : (b : List ℕ) → (reply b ≡ Ok Yes) ↔ (b ≡ bytes_of ds)
    yes_due b = (there, back)
      where
        there : reply b ≡ Ok Yes → b ≡ bytes_of ds
        there e = let p = replied_found _ ds b Yes (sym (replied b) ∙ e) in (yes_exactly ds all_held b (records_whole rows cols b p.0)).0 p.1

        back : b ≡ bytes_of ds → reply b ≡ Ok Yes
        back e = ap reply e ∙ sub-found ds Yes (λ r h. h) ((yes_exactly ds all_held (bytes_of ds) (let l = length-bytes_of ds in omega arith)).1 refl)

    -- Any other finding holds as it says, and its index is that of the first record that differs.
    pub found_means : (b : List ℕ) (i : ℕ) (a : Finding) → Differs i a → reply b ≡ Ok a → Means ds b a × (Agree ds b i × (Agree ds b (suc i) → ⊥))
    found_means b i a f e =
        let p = replied_found _ ds b a (sym (replied b) ∙ e) in
        let whole = records_whole rows cols b p.0 in
        (subst (Means ds b) p.1 (finding_means b whole ds), first_differing ds all_held b whole i a f p.1)

    -- And where the list's records pass their checks, what holds is answered: no two findings hold at once.
    pub means_found : (b : List ℕ) → first_of (records_checks false rows cols b) ≡ Ok tt → (a : Finding) → Means ds b a → reply b ≡ Ok a
    means_found b c a h = checked_found b a c (finding_only ds all_held b (records_whole rows cols b c) a h)
