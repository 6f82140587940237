-- What a call answers of detection's own list, and of that list edited: one record left out, put in twice or moved, or one byte changed. Assumes nothing.
use Rattle.std.specs.Prelude.{Result, Ok}
use Prim.Native.Nat.{ℕ, zero, suc, ◌+◌, ◌*◌, ◌/◌, ◌≤◌, ◌<◌}
use native.Mathlib.Omega.{arith}
use mathlib.Core.Bool.{false}
use mathlib.Core.List.{List, ◌∷◌, ◌++◌}
use mathlib.Core.Logic.{⊎_elim}
use mathlib.Core.Path.{◌≡◌, refl, sym, ap, ◌∙◌, subst}
use lib.ListN.{length, get_or, take}
use lib.Seq.{take_all}
use lib.Ieee.{Float}
use Rattle.tables.specs.declared.Set.{Set}
use Rattle.tables.specs.declared.Refusal.{Refusal}
use Rattle.tables.specs.declared.Thresholds.{Thresholds}
use Rattle.tables.specs.Refusal.{first_of}
use Rattle.record.specs.declared.Record.{Record}
use Rattle.record.specs.Layout.{spot_width, record_bytes, bytes_of, written}
use Rattle.join.specs.Join.{records_checks}
use Rattle.checks.specs.Checks.{detect_checks}
use Rattle.samples.specs.Level.{Maps, maps_of}
use Rattle.detect.specs.Due.{due}
use Rattle.detect.specs.Detect.{detect_of}
use Rattle.detect.proofs.Promise.{first-written}
use Rattle.detect.proofs.RefusalsLaws.{answer-found}
use Rattle.demands.specs.List.{StandsAt, Stands, Rising}
use Rattle.demands.proofs.Listed.{list_rises}
use Rattle.demands.proofs.Places.{stands-left, stands-right, stands_cases}
use Rattle.follow.specs.Follow.{finding_of}
use Rattle.follow.specs.declared.Finding.{Finding}
use Rattle.follow.specs.declared.Finding.TheVariants.{Yes, Extra, Absent, Different}
use Rattle.partner.specs.Partner.{partner_of}
use Rattle.acceptance.specs.Meaning.{AllHeld}
use Rattle.acceptance.specs.Claims.{Sub, changed, Ordering}
use Rattle.acceptance.proofs.EditedLaws as edited
use Rattle.acceptance.proofs.AcceptLaws.{yes_due, sub-found, checked_found, all_held}

-- ---- records of a list

sub-append : (xs ys ds : List Record) → Sub xs ds → Sub ys ds → Sub (xs ++ ys) ds
sub-append xs ys ds a b r h = ⊎_elim (a r) (b r) (stands_cases xs ys r h)

cons_cases : (d : Record) (xs ds : List Record) → Stands ds d → Sub xs ds → (i : ℕ) (r : Record) → StandsAt (d ∷ xs) i r → Stands ds r
unfolding StandsAt
cons_cases d xs ds a b zero r h = subst (Stands ds) h a
cons_cases d xs ds a b (suc i) r h = b r (record { place = i; there = h })

sub-cons : (d : Record) (xs ds : List Record) → Stands ds d → Sub xs ds → Sub (d ∷ xs) ds
sub-cons d xs ds a b r h = cons_cases d xs ds a b h.place r h.there

-- what a list begins with, and what follows it
stands-first : (d : Record) (xs : List Record) → Stands (d ∷ xs) d
unfolding StandsAt
stands-first d xs = record { place = 0; there = refl }

stands-next : (d : Record) (xs : List Record) → Sub xs (d ∷ xs)
unfolding StandsAt
stands-next d xs r h = record { place = suc h.place; there = h.there }

-- both parts of a list
both_parts : (front back gs : List Record) → Sub gs back → Sub (front ++ gs) (front ++ back)
both_parts front back gs h = sub-append front gs (front ++ back) (stands-left front back) (λ r k. stands-right front back r (h r k))

-- ---- a call

module _ (s : Set) (th : Thresholds) (rows cols octave : ℕ) (l0 l1 l2 l3 : List Float) where
  abbrev maps : Maps
  maps = maps_of l0 l1 l2 l3 (record { rows = rows; cols = cols; octave = octave }) s th

  abbrev ds : List Record
  ds = due maps

  abbrev reply : List ℕ → Result Finding Refusal
  reply b = partner_of s th rows cols octave l0 l1 l2 l3 b

  -- Detection's own output is answered yes.
  pub own-accepted : (out : List ℕ) (n : ℕ) → (detect_of s th rows cols octave l0 l1 l2 l3 out).answer ≡ Ok n → n * spot_width ≤ length out
      → reply (take (n * spot_width) (detect_of s th rows cols octave l0 l1 l2 l3 out).buffer) ≡ Ok Yes
  unfolding detect_of
  own-accepted out n e room =
      let p = first-written s th rows cols octave l0 l1 l2 l3 out n e in
      let all : written ds out ≡ n = omega (arith, p.0) in
      let bytes : take (n * spot_width) (detect_of s th rows cols octave l0 l1 l2 l3 out).buffer ≡ bytes_of ds = ap (λ (k : ℕ). take (k * spot_width) (detect_of s th rows cols octave l0 l1 l2 l3 out).buffer) (sym all) ∙ p.1 ∙ ap bytes_of (take_all (length out / spot_width) ds (omega (arith, p.0))) in
      (yes_due s th rows cols octave l0 l1 l2 l3 (answer-found _ maps out n e) _).1 bytes

  module _ (fine : first_of (detect_checks (length l0) (length l1) (length l2) (length l3) rows cols octave th s) ≡ Ok tt) where
    -- a list of due records, where the due list is the one that is edited
    answered : (whole gs : List Record) (a : Finding) → ds ≡ whole → Sub gs whole → (AllHeld whole → Rising whole → finding_of whole (bytes_of gs) ≡ a) → reply (bytes_of gs) ≡ Ok a
    answered whole gs a is sub found =
        sub-found s th rows cols octave l0 l1 l2 l3 fine gs a (subst (Sub gs) (sym is) sub)
        (ap (λ (l : List Record). finding_of l (bytes_of gs)) is ∙ found (subst AllHeld is (all_held s th rows cols octave l0 l1 l2 l3 fine)) (subst Rising is (list_rises maps)))

    -- One record left out: it is absent, at its own index.
    pub left-out-absent : (front : List Record) (d : Record) (back : List Record) → ds ≡ front ++ (d ∷ back) → reply (bytes_of (front ++ back)) ≡ Ok (Absent (length front))
    left-out-absent front d back is = answered (front ++ (d ∷ back)) (front ++ back) (Absent (length front)) is (both_parts front (d ∷ back) back (stands-next d back)) (edited.left_out front d back)

    -- A record put in again behind itself: it is extra, where it was put.
    pub again_extra : (front back : List Record) (i : ℕ) (d : Record) → ds ≡ front ++ back → StandsAt front i d → reply (bytes_of (front ++ (d ∷ back))) ≡ Ok (Extra (length front))
    again_extra front back i d is at =
        answered (front ++ back) (front ++ (d ∷ back)) (Extra (length front)) is
        (sub-append front (d ∷ back) (front ++ back) (stands-left front back) (sub-cons d back (front ++ back) (stands-left front back d (record { place = i; there = at })) (stands-right front back)))
        (edited.again_behind front back i d at)

    -- A record put in again before itself, with another one between: the due one is absent, where it was put.
    pub again_absent : (front : List Record) (e : Record) (back : List Record) (i : ℕ) (d : Record) → ds ≡ front ++ (e ∷ back) → StandsAt back i d → reply (bytes_of (front ++ (d ∷ e ∷ back))) ≡ Ok (Absent (length front))
    again_absent front e back i d is at =
        answered (front ++ (e ∷ back)) (front ++ (d ∷ e ∷ back)) (Absent (length front)) is
        (both_parts front (e ∷ back) (d ∷ e ∷ back) (sub-cons d (e ∷ back) (e ∷ back) (stands-next e back d (record { place = i; there = at })) (λ r h. h)))
        (edited.again_before front e back i d at)

    -- A record moved to a later place: it is absent, where it stood.
    pub moved-on-absent : (front : List Record) (d e : Record) (mid back : List Record) → ds ≡ front ++ (d ∷ e ∷ (mid ++ back)) → reply (bytes_of (front ++ (e ∷ (mid ++ (d ∷ back))))) ≡ Ok (Absent (length front))
    moved-on-absent front d e mid back is =
        let whole : List Record = d ∷ e ∷ (mid ++ back) in
        let rest : Sub (mid ++ back) whole = λ r h. stands-next d (e ∷ (mid ++ back)) r (stands-next e (mid ++ back) r h) in
        answered (front ++ (d ∷ e ∷ (mid ++ back))) (front ++ (e ∷ (mid ++ (d ∷ back)))) (Absent (length front)) is
        (both_parts front (d ∷ e ∷ (mid ++ back)) (e ∷ (mid ++ (d ∷ back)))
        (sub-cons e (mid ++ (d ∷ back)) whole (stands-next d (e ∷ (mid ++ back)) e (stands-first e (mid ++ back)))
        (sub-append mid (d ∷ back) whole (λ r h. rest r (stands-left mid back r h)) (sub-cons d back whole (stands-first d (e ∷ (mid ++ back))) (λ r h. rest r (stands-right mid back r h))))))
        (edited.moved_on front d e mid back)

    -- A record moved to an earlier place: the one that is due there is absent.
    pub moved_back_absent : (front : List Record) (e : Record) (mid : List Record) (d : Record) (back : List Record) → ds ≡ front ++ (e ∷ (mid ++ (d ∷ back))) → reply (bytes_of (front ++ (d ∷ e ∷ (mid ++ back)))) ≡ Ok (Absent (length front))
    moved_back_absent front e mid d back is =
        let whole : List Record = e ∷ (mid ++ (d ∷ back)) in
        let rest : Sub (mid ++ (d ∷ back)) whole = stands-next e (mid ++ (d ∷ back)) in
        let behind : Sub (d ∷ back) whole = λ r h. rest r (stands-right mid (d ∷ back) r h) in
        answered (front ++ (e ∷ (mid ++ (d ∷ back)))) (front ++ (d ∷ e ∷ (mid ++ back))) (Absent (length front)) is
        (both_parts front (e ∷ (mid ++ (d ∷ back))) (d ∷ e ∷ (mid ++ back))
        (sub-cons d (e ∷ (mid ++ back)) whole (behind d (stands-first d back)) (sub-cons e (mid ++ back) whole (stands-first e (mid ++ (d ∷ back)))
        (sub-append mid back whole (λ r h. rest r (stands-left mid (d ∷ back) r h)) (λ r h. behind r (stands-next d back r h))))))
        (edited.moved_back front e mid d back)

    -- ---- one byte changed, where the record can still be read

    module _ (front : List Record) (d : Record) (back : List Record) (o x : ℕ) (is : ds ≡ front ++ (d ∷ back)) (inside : o < spot_width) (readable : first_of (records_checks false rows cols (changed front d back o x)) ≡ Ok tt) where
      abbrev sent : List ℕ
      sent = changed front d back o x

      answered_bytes : (a : Finding) → (AllHeld (front ++ (d ∷ back)) → finding_of (front ++ (d ∷ back)) sent ≡ a) → reply sent ≡ Ok a
      answered_bytes a found =
          checked_found s th rows cols octave l0 l1 l2 l3 fine sent a readable
          (ap (λ (l : List Record). finding_of l sent) is ∙ found (subst AllHeld is (all_held s th rows cols octave l0 l1 l2 l3 fine)))

      -- A byte of the key or the polarity that is less than the due one: the record is extra.
      pub less-extra : Ordering o → x < get_or (record_bytes d) o 0 → reply sent ≡ Ok (Extra (length front))
      less-extra p less = answered_bytes (Extra (length front)) (λ held. edited.changed-less front d back held o x inside p less)

      -- One that is more: the due record is absent.
      pub more-absent : Ordering o → get_or (record_bytes d) o 0 < x → reply sent ≡ Ok (Absent (length front))
      more-absent p more = answered_bytes (Absent (length front)) (λ held. edited.changed-more front d back held o x inside p more)

      -- Any other byte: the record is different.
      pub other_different : (Ordering o → ⊥) → (x ≡ get_or (record_bytes d) o 0 → ⊥) → reply sent ≡ Ok (Different (length front))
      other_different out unlike = answered_bytes (Different (length front)) (λ held. edited.changed_other front d back held o x inside out unlike)
