-- What does depend on the other desk: whether a claim is granted, on the free slots; a run from the other's slot, on the set found there. Assumes nothing.
use Rattle.std.specs.Prelude.{Ok, Err}
use Prim.Native.Nat.{ℕ, ◌<◌}
use mathlib.Core.Bool.{Bool, true, false, ◌&&◌}
use mathlib.Core.Path.{◌≡◌, refl, ap, ◌∙◌}
use mathlib.Core.List.{List}
use lib.Dec.{eqb}
use lib.ListN.{length}
use lib.Ieee.{Float, lt, of_bits, of_fields, odd}
use borrow.Author.Tests.{eq-eqb, lt-leb}
use Rattle.words.specs.Words.{word_from, float_from, floats_at}
use Rattle.tables.specs.declared.Set.{Set}
use Rattle.tables.specs.declared.Thresholds.{Thresholds}
use Rattle.tables.specs.declared.Refusal.TheVariants.{NotYours}
use Rattle.tables.specs.Refusal.{first_of, unless}
use Rattle.tables.specs.Set.{rising, all_set, good, set_of, spare_zero, good_record}
use Rattle.tables.proofs.SetLaws.{good-record_read, read-held, read_good}
use Rattle.detect.specs.Detect.{detect_of}
use Rattle.desks.specs.Table.{Slot, slot_of, set_in}
use Rattle.desks.specs.Desks.{Claim, Write, usable, needed, top, call_checks, zeros, call_of}
use Rattle.desks.proofs.CallLaws.{desk_small, usable_parts, write_fine, done-fine}
use Rattle.desk_run.specs.Run.{run_of}
use Rattle.desk_run.proofs.RunLaws.{run_detects}
use Rattle.apart.specs.Slots.{told_by, slot_done, slot_by, Owned}
use Rattle.apart.proofs.SlotLaws.{length-kept, answer-is, own-slot, fine-usable}
use Rattle.apart.proofs.Alone.{claimed_owned, owned-runnable, foreign}

-- ---- a claimed slot is not good until it is written

-- one test of four that fails
second-fails : (a b c d : Bool) → b ≡ false → (a && b && c && d) ≡ false
second-fails true b c d e = rw e
second-fails false b c d e = refl

last_fails : (a b c : Bool) → c ≡ false → (a && b && c) ≡ false
last_fails true true c e = e
last_fails true false c e = refl
last_fails false b c e = refl

zeros-flat : rising (set_of zeros).sigmas ≡ false
unfolding rising set_of zeros floats_at float_from word_from lt of_bits of_fields odd
zeros-flat = refl

-- the record of a claimed slot is not good
pub zeros-bad : good_record zeros ≡ false
unfolding good_record good
zeros-bad = last_fails (eqb (length zeros) 528) (spare_zero zeros) _ (second-fails (all_set (set_of zeros)) (rising (set_of zeros).sigmas) _ _ zeros-flat)

module _ (desk i : ℕ) (t : List ℕ) where
  -- a slot after a claim that is done: zeros, the desk's, one more in the count
  pub claimed_slot : (call_of Claim t desk i).answer ≡ Ok tt → slot_of (call_of Claim t desk i).table i ≡ slot_done Claim desk (slot_of t i)
  unfolding slot_by
  claimed_slot done =
      let fine = done-fine Claim t desk i done in
      own-slot t i (usable_parts desk i t (fine-usable Claim desk i t fine)).0 Claim desk ∙ rw fine

  -- so detection from it is refused with 4, in its order
  pub claimed_not-good : (call_of Claim t desk i).answer ≡ Ok tt → good (set_in (slot_of (call_of Claim t desk i).table i)) ≡ false
  unfolding slot_done
  claimed_not-good done = ap (λ (s : Slot). good (set_in s)) (claimed_slot done) ∙ (read_good zeros ∙ zeros-bad)

  -- a slot after a write that is done: the record written, one more in the count
  pub written-slot : (new : List ℕ) → (call_of (Write new) t desk i).answer ≡ Ok tt → slot_of (call_of (Write new) t desk i).table i ≡ slot_done (Write new) desk (slot_of t i)
  unfolding slot_by
  written-slot new done =
      let fine = done-fine (Write new) t desk i done in
      own-slot t i (usable_parts desk i t (fine-usable (Write new) desk i t fine)).0 (Write new) desk ∙ rw fine

-- ---- the first exception

claim_granted : (desk i : ℕ) (t : List ℕ) → usable desk i t ≡ true → (slot_of t i).owner ≡ 0 → (slot_of t i).count < top → (call_of Claim t desk i).answer ≡ Ok tt
unfolding call_checks needed first_of unless told_by
claim_granted desk i t u free room = answer-is Claim desk i t ∙ rw (u, eq-eqb (slot_of t i).owner 0 free, lt-leb top (slot_of t i).count room)

-- a claim of a free slot is done; after the other desk's claim it is 11
pub claims_depend : (desk other i : ℕ) (t : List ℕ) → usable desk i t ≡ true → usable other i t ≡ true → (other ≡ desk → ⊥) → (slot_of t i).owner ≡ 0 → (slot_of t i).count < top
    → ((call_of Claim t desk i).answer ≡ Ok tt) × ((call_of Claim (call_of Claim t other i).table desk i).answer ≡ Err NotYours)
unfolding told_by
claims_depend desk other i t u u' two free room = (claim_granted desk i t u free room, second)
  where
    second : (call_of Claim (call_of Claim t other i).table desk i).answer ≡ Err NotYours
    second =
        let now : List ℕ = (call_of Claim t other i).table in
        let its = claimed_owned other i t (claim_granted other i t u' free room) in
        answer-is Claim desk i now
        ∙ rw (foreign other i Claim desk (usable desk i now) (slot_of now i) its.owner (desk_small other its.named).0 two)

-- ---- the second exception

-- after a write that is done, a run from the slot is detection with the set written, whoever makes it
pub runs_depend : (desk i : ℕ) (new t : List ℕ) → (call_of (Write new) t desk i).answer ≡ Ok tt
    → (th : Thresholds) (rows cols octave : ℕ) (l0 l1 l2 l3 : List Float) (out : List ℕ)
    → run_of (call_of (Write new) t desk i).table i th rows cols octave l0 l1 l2 l3 out ≡ detect_of (set_of new) th rows cols octave l0 l1 l2 l3 out
unfolding slot_done needed
runs_depend desk i new t done th rows cols octave l0 l1 l2 l3 out =
    let now : List ℕ = (call_of (Write new) t desk i).table in
    let fine = done-fine (Write new) t desk i done in
    let had = write_fine desk (usable desk i t) (slot_of t i) new fine in
    let named = usable_parts desk i t had.0.named in
    let its = written-slot desk i t new done in
    let found : set_in (slot_of now i) ≡ set_of new = ap (λ (s : Slot). set_in s) its ∙ read-held new _ (good-record_read new had.2) in
    let owned : Owned desk i now = record {
      long = length-kept (Write new) desk i t ∙ named.0.long;
      inside = named.0.inside;
      named = named.1;
      owner = ap (λ (s : Slot). s.owner) its ∙ had.0.owner;
    } in
    run_detects now i th rows cols octave l0 l1 l2 l3 out (owned-runnable desk i now owned)
    ∙ ap (λ (s : Set). detect_of s th rows cols octave l0 l1 l2 l3 out) found
