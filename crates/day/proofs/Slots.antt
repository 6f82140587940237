-- Which slot an add takes, when none is free, what a strike gives back, and what closing up leaves. Assumes nothing.
use Rattle.std.specs.Prelude.{Result, Ok, Err}
use Prim.Native.Nat.{ℕ, ◌/◌, ◌%◌, ◌≤◌, ◌<◌}
use native.Mathlib.Omega.{arith}
use mathlib.Core.Bool.{Bool, true, false, false≢true}
use mathlib.Core.Path.{◌≡◌, refl, sym, ap, ◌∙◌}
use mathlib.Core.List.{List, []}
use lib.Dec.{eqb}
use lib.ListN.{length, get_or, set}
use lib.Seq.{get_or-set_same, get_or-set_other, set-set}
use borrow.Author.Tests.{leb-true, le-ltb, le-leb, lt-leb, eq-eqb, eqb-true, eqb-false}
use Rattle.tables.specs.declared.Refusal.TheVariants.{Size, Records, Room, NoSpot}
use Rattle.tables.specs.Refusal.{first_of, unless}
use Rattle.record.specs.Layout.{spot_width}
use Rattle.store_slots.specs.Slots.{free_bytes, is_free, slots_of, first_where, bad_slot}
use Rattle.store.specs.Store.{Add, Strike, CloseUp, good_new, call_checks, answer_of, slots_after, Outcome, call_of}
use Rattle.tables.specs.declared.Refusal.{Refusal}
use Rattle.store.specs.declared.Stored.{Stored}
use Rattle.store.specs.declared.Stored.TheVariants.{Done, At}
use Rattle.store_slots.proofs.SlotLaws.{free-is-free, count_of, slots_of-flat, past-free, live_inside}
use Rattle.store_slots.proofs.SearchLaws.{where_holds, where_first, where_is, where_none}
use Rattle.store.proofs.StoreLaws.{Passed, strike_passed, add-passed, add_over, strike_over, sized_after, call_done, call_refused, refusal_of, done-fine, length-kept}
use Rattle.day.proofs.Refusals.{free_fair}
use Rattle.day.specs.Claims.{slot_at, Lowest, Full}

-- ---- what every call but clearing asks

-- a store that passes: sides, length and slots
pub passed-fine : (rows cols : ℕ) (b : List ℕ) → Passed rows cols b → first_of (call_checks (CloseUp rows cols) b) ≡ Ok tt
unfolding call_checks first_of unless
passed-fine rows cols b p =
    let none : first_where (bad_slot rows cols) (slots_of b) ≡ length b / spot_width = where_none (bad_slot rows cols) (slots_of b) [] (λ k less. p.fair k (omega (arith, count_of b))) ∙ count_of b in
    rw (le-ltb 4096 rows p.rows-most, le-ltb 4096 cols p.cols-most, eq-eqb (length b % spot_width) 0 p.whole, none, le-ltb (length b / spot_width) (length b / spot_width) (omega arith))

-- the last of adding's checks, and of striking's, is the only one that refuses with its number
room_said : (v w x y z : Bool) (i j k : ℕ) → unless v Size (unless w (Records i) (unless x (Records j) (unless y (Records k) (unless z Room (Ok tt))))) ≡ Err Room → z ≡ true
unfolding unless
room_said true w x y z i j k e = cc
room_said false true x y z i j k e = cc
room_said false false true y z i j k e = cc
room_said false false false true z i j k e = cc
room_said false false false false true i j k e = refl
room_said false false false false false i j k e = cc

spot_said : (v w x y : Bool) (j k : ℕ) → unless v Size (unless w (Records j) (unless x (Records k) (unless y NoSpot (Ok tt)))) ≡ Err NoSpot → y ≡ true
unfolding unless
spot_said true w x y j k e = cc
spot_said false true x y j k e = cc
spot_said false false true y j k e = cc
spot_said false false false true j k e = refl
spot_said false false false false j k e = cc

module _ (b : List ℕ) where
  -- ---- adding

  module _ (rows cols : ℕ) (new : List ℕ) where
    at_fine : (i : ℕ) → (call_of (Add rows cols new) b).answer ≡ Ok (At i) → first_of (call_checks (Add rows cols new) b) ≡ Ok tt
    at_fine i e = done-fine (Add rows cols new) b (λ r f. false≢true cc)

    at-is : (i : ℕ) → (call_of (Add rows cols new) b).answer ≡ Ok (At i) → i ≡ first_where is_free (slots_of b)
    unfolding answer_of
    at-is i e = let d = call_done (Add rows cols new) b (at_fine i e) in let f : ◌≡◌ {A = Result Stored Refusal} (Ok (At i)) (Ok (At (first_where is_free (slots_of b)))) = sym e ∙ ap (λ (o : Outcome). o.answer) d in cc

    -- the slot that is taken is free, and the lowest
    pub added_lowest : (i : ℕ) → (call_of (Add rows cols new) b).answer ≡ Ok (At i) → Lowest b i
    added_lowest i e =
        let p = add-passed rows cols new b (at_fine i e) in
        let room : first_where is_free (slots_of b) < length (slots_of b) = omega (arith, p.room, count_of b) in
        rw (at-is i e) record {
          inside = p.room;
          free = where_holds is_free (slots_of b) free_bytes room;
          lower = λ k less. where_first is_free (slots_of b) free_bytes k less;
        }

    -- it holds the record afterwards, and every other slot what it held
    pub added_slots : (i : ℕ) → (call_of (Add rows cols new) b).answer ≡ Ok (At i) → slots_of (call_of (Add rows cols new) b).buffer ≡ set (slots_of b) i new
    unfolding slots_after
    added_slots i e =
        let h = at_fine i e in
        rw (at-is i e, call_done (Add rows cols new) b h) (slots_of-flat (slots_after (Add rows cols new) (slots_of b)) (sized_after (Add rows cols new) b h))

    -- 6 is answered only where no slot is free
    pub refused_full : (call_of (Add rows cols new) b).answer ≡ Err Room → Full b
    unfolding call_checks first_of
    refused_full e k less =
        let held = room_said _ _ _ _ _ _ _ _ (refusal_of (Add rows cols new) b Room e) in
        where_first is_free (slots_of b) free_bytes k (omega (arith, leb-true (length b / spot_width) (first_where is_free (slots_of b)) held))

    -- where store and record pass, 6 is answered wherever no slot is free
    module _ (fine : first_of (call_checks (CloseUp rows cols) b) ≡ Ok tt) (good : good_new rows cols new ≡ true) where
      pub full-refused : Full b → (call_of (Add rows cols new) b).answer ≡ Err Room
      unfolding first_of unless
      full-refused full =
          let none : first_where is_free (slots_of b) ≡ length b / spot_width = where_none is_free (slots_of b) free_bytes (λ k less. full k (omega (arith, count_of b))) ∙ count_of b in
          let room : first_of (call_checks (Add rows cols new) b) ≡ Err Room = add_over rows cols b new fine ∙ rw (good, none, le-leb (length b / spot_width) (length b / spot_width) (omega arith)) in
          ap (λ (o : Outcome). o.answer) (call_refused (Add rows cols new) b Room room)

      -- and the lowest free slot is taken wherever one is free
      pub lowest_added : (i : ℕ) → Lowest b i → (call_of (Add rows cols new) b).answer ≡ Ok (At i)
      unfolding first_of unless answer_of
      lowest_added i l =
          let found : first_where is_free (slots_of b) ≡ i = where_is is_free (slots_of b) free_bytes i (omega (arith, l.inside, count_of b)) l.free l.lower in
          let room : first_of (call_checks (Add rows cols new) b) ≡ Ok tt = add_over rows cols b new fine ∙ rw (good, found, lt-leb (length b / spot_width) i l.inside) in
          ap (λ (o : Outcome). o.answer) (call_done (Add rows cols new) b room) ∙ ap (λ n. Ok (At n)) found

  -- ---- striking

  module _ (rows cols i : ℕ) where
    struck_fine : (call_of (Strike rows cols i) b).answer ≡ Ok Done → first_of (call_checks (Strike rows cols i) b) ≡ Ok tt
    struck_fine e = done-fine (Strike rows cols i) b (λ r f. false≢true cc)

    -- what is struck was live
    pub struck_live : (call_of (Strike rows cols i) b).answer ≡ Ok Done → is_free (slot_at b i) ≡ false
    struck_live e = (strike_passed rows cols b i (struck_fine e)).1

    -- afterwards its slot is free, and every other slot holds what it held
    pub struck_slots : (call_of (Strike rows cols i) b).answer ≡ Ok Done → slots_of (call_of (Strike rows cols i) b).buffer ≡ set (slots_of b) i free_bytes
    unfolding slots_after
    struck_slots e =
        let h = struck_fine e in
        rw (call_done (Strike rows cols i) b h) (slots_of-flat (slots_after (Strike rows cols i) (slots_of b)) (sized_after (Strike rows cols i) b h))

    -- 13 is answered only where there is no spot
    pub refused_no_spot : (call_of (Strike rows cols i) b).answer ≡ Err NoSpot → is_free (slot_at b i) ≡ true
    unfolding call_checks first_of
    refused_no_spot e = spot_said _ _ _ _ _ _ (refusal_of (Strike rows cols i) b NoSpot e)

    -- where the store passes, it is answered at each free slot and past the end
    module _ (fine : first_of (call_checks (CloseUp rows cols) b) ≡ Ok tt) where
      pub free_no_spot : is_free (slot_at b i) ≡ true → (call_of (Strike rows cols i) b).answer ≡ Err NoSpot
      unfolding first_of unless
      free_no_spot f =
          let spot : first_of (call_checks (Strike rows cols i) b) ≡ Err NoSpot = strike_over rows cols b i fine ∙ rw f in
          ap (λ (o : Outcome). o.answer) (call_refused (Strike rows cols i) b NoSpot spot)

      pub past_no_spot : length b / spot_width ≤ i → (call_of (Strike rows cols i) b).answer ≡ Err NoSpot
      past_no_spot h = free_no_spot (past-free b i h)

      -- and nowhere else
      pub live_struck : is_free (slot_at b i) ≡ false → (call_of (Strike rows cols i) b).answer ≡ Ok Done
      unfolding first_of unless answer_of
      live_struck f =
          let spot : first_of (call_checks (Strike rows cols i) b) ≡ Ok tt = strike_over rows cols b i fine ∙ rw f in
          ap (λ (o : Outcome). o.answer) (call_done (Strike rows cols i) b spot)

-- ---- struck and added again

module _ (b : List ℕ) (rows cols i : ℕ) (new : List ℕ) (struck : (call_of (Strike rows cols i) b).answer ≡ Ok Done) (good : good_new rows cols new ≡ true) where
  abbrev after : List ℕ
  after = (call_of (Strike rows cols i) b).buffer

  slot-after : (k : ℕ) (d : List ℕ) → (k ≡ i → ⊥) → get_or (slots_of after) k d ≡ get_or (slots_of b) k d
  slot-after k d n = rw (struck_slots b rows cols i struck) (get_or-set_other (slots_of b) i k free_bytes d n)

  own-after : (d : List ℕ) → get_or (slots_of after) i d ≡ free_bytes
  own-after d =
      rw (struck_slots b rows cols i struck)
      (get_or-set_same (slots_of b) i free_bytes d (omega (arith, count_of b, live_inside b i (struck_live b rows cols i struck))))

  passes : Passed rows cols after
  passes =
      let p = (strike_passed rows cols b i (struck_fine b rows cols i struck)).0 in
      let long = length-kept (Strike rows cols i) b in
      record {
        rows-most = p.rows-most;
        cols-most = p.cols-most;
        whole = rw long p.whole;
        fair = λ k less. go k (eqb k i) refl (p.fair k (omega (arith, long)));
      }
    where
      go : (k : ℕ) (t : Bool) → eqb k i ≡ t → bad_slot rows cols (get_or (slots_of b) k []) ≡ false → bad_slot rows cols (get_or (slots_of after) k []) ≡ false
      go k true e f = let is : k ≡ i = eqb-true k i e in rw (is, own-after []) (free_fair rows cols)
      go k false e f = rw (slot-after k [] (eqb-false k i e)) f

  lowest-after : ((k : ℕ) → k < i → is_free (slot_at b k) ≡ false) → Lowest after i
  lowest-after lower = record {
    inside = rw (length-kept (Strike rows cols i) b) (live_inside b i (struck_live b rows cols i struck));
    free = rw (own-after free_bytes) free-is-free;
    lower = λ k less. rw (slot-after k free_bytes (λ e. let z : ⊥ = omega (arith, e) in z)) (lower k less);
  }

  -- the slot that was struck is given back where no lower one is free, and holds the new record
  pub given_back : ((k : ℕ) → k < i → is_free (slot_at b k) ≡ false) → (call_of (Add rows cols new) after).answer ≡ Ok (At i)
  given_back lower = lowest_added after rows cols new (passed-fine rows cols after passes) good i (lowest-after lower)

  pub given_back_slots : ((k : ℕ) → k < i → is_free (slot_at b k) ≡ false) → slots_of (call_of (Add rows cols new) after).buffer ≡ set (slots_of b) i new
  given_back_slots lower = added_slots after rows cols new i (given_back lower) ∙ rw (struck_slots b rows cols i struck) (set-set (slots_of b) i free_bytes new)
