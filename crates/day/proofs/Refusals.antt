-- What 5 tells by its index, and which slots are bad. Assumes nothing.
use Rattle.std.specs.Prelude.{Result, Ok, Err, ⊤}
use Prim.Native.Nat.{ℕ, ◌/◌, ◌%◌}
use native.Mathlib.Omega.{arith}
use mathlib.Core.Bool.{Bool, true, false, not, false≢true}
use mathlib.Core.Logic.{◌⊎◌, inl, inr}
use mathlib.Core.Path.{◌≡◌, refl, sym, ◌∙◌}
use mathlib.Core.List.{List}
use lib.Dec.{eqb, ltb}
use lib.ListN.{length, get_or}
use borrow.Author.Tests.{ltb-true, eqb-true, eqb-false, not-true, not-false}
use Rattle.tables.specs.declared.Refusal.TheVariants.{Size, Records, Room, NoSpot}
use Rattle.tables.specs.declared.Refusal.{Refusal}
use Rattle.tables.specs.Refusal.{first_of, unless}
use Rattle.record.specs.Layout.{spot_width, record_with, record_from}
use Rattle.record.specs.Readable.{readable}
use Rattle.record.proofs.ReadableLaws.{readable_parts}
use Rattle.store_slots.specs.Slots.{mark, free_bytes, is_free, slots_of, first_where, bad_slot}
use Rattle.store.specs.Store.{Add, Strike, CloseUp, good_new, call_checks, call_of}
use Rattle.store_slots.proofs.SlotLaws.{free-is-free, count_of}
use Rattle.store_slots.proofs.SearchLaws.{where_holds, where_first}
use Rattle.store.proofs.StoreLaws.{add_over, add_stops, strike_over, strike_stops, refusal_of}
use Rattle.day.specs.Claims.{WrongLength, FirstBad, BadNew}

-- ---- bad slots

-- a free slot is none
pub free_fair : (rows cols : ℕ) → bad_slot rows cols free_bytes ≡ false
unfolding bad_slot
free_fair rows cols = rw free-is-free

-- one with the free mark and another byte not 0 is: polarity 255 is not 0 or 1
pub marked_bad : (rows cols : ℕ) (s : List ℕ) → get_or s mark 0 ≡ 255 → is_free s ≡ false → bad_slot rows cols s ≡ true
unfolding bad_slot record_from record_with
marked_bad rows cols s marked e = rw (e, unreadable (readable rows cols (record_from s 0)) refl)
  where
    unreadable : (t : Bool) → readable rows cols (record_from s 0) ≡ t → readable rows cols (record_from s 0) ≡ false
    unreadable false f = f
    unreadable true f = let z : ⊥ = omega (arith, (readable_parts rows cols (record_from s 0) f).polarity, marked) in absurd z

-- ---- the index beside 5

-- of the checks that every call but clearing begins with, the second or the third
store_said : (v w x : Bool) (j k i : ℕ) → unless v Size (unless w (Records j) (unless x (Records k) (Ok tt))) ≡ Err (Records i) → ((w ≡ true) × (i ≡ j)) ⊎ ((w ≡ false) × (x ≡ true) × (i ≡ k))
unfolding unless
store_said true w x j k i e = absurd (false≢true cc)
store_said false true x j k i e = inl (refl, cc)
store_said false false true j k i e = inr (refl, refl, cc)
store_said false false false j k i e = absurd (false≢true cc)

-- of adding's two more, the first
new_said : (v w : Bool) (j i : ℕ) → unless v (Records j) (unless w Room (Ok tt)) ≡ Err (Records i) → (v ≡ true) × (i ≡ j)
unfolding unless
new_said true w j i e = (refl, cc)
new_said false true j i e = (cc, cc)
new_said false false j i e = (cc, cc)

-- striking's one more is never it
spot_said : (v : Bool) (i : ℕ) → unless v NoSpot (Ok tt) ≡ Err (Records i) → ⊥
unfolding unless
spot_said true i e = false≢true cc
spot_said false i e = false≢true cc

module _ (rows cols : ℕ) (b : List ℕ) where
  store_index : (i : ℕ) → first_of (call_checks (CloseUp rows cols) b) ≡ Err (Records i) → WrongLength b i ⊎ FirstBad rows cols b i
  unfolding call_checks first_of
  store_index i e = go (store_said _ _ _ _ _ _ e)
    where
      go : ((not (eqb (length b % spot_width) 0) ≡ true) × (i ≡ length b / spot_width))
          ⊎ ((not (eqb (length b % spot_width) 0) ≡ false) × (ltb (first_where (bad_slot rows cols) (slots_of b)) (length b / spot_width) ≡ true) × (i ≡ first_where (bad_slot rows cols) (slots_of b)))
          → WrongLength b i ⊎ FirstBad rows cols b i
      go (inl h) = inl (record { broken = eqb-false _ _ (not-true _ h.0); count = h.1 })
      go (inr h) =
          let inside = ltb-true (first_where (bad_slot rows cols) (slots_of b)) (length b / spot_width) h.1 in
          inr (record {
            whole = eqb-true _ _ (not-false _ h.0);
            inside = rw h.2 inside;
            bad = rw h.2 (where_holds (bad_slot rows cols) (slots_of b) free_bytes (omega (arith, count_of b)));
            earlier = λ k less. where_first (bad_slot rows cols) (slots_of b) free_bytes k (omega (arith, h.2));
          })

  -- closing up: the length, or the first bad slot
  pub close-index : (i : ℕ) → (call_of (CloseUp rows cols) b).answer ≡ Err (Records i) → WrongLength b i ⊎ FirstBad rows cols b i
  close-index i e = store_index i (refusal_of (CloseUp rows cols) b (Records i) e)

  -- striking: the same
  pub strike_index : (slot i : ℕ) → (call_of (Strike rows cols slot) b).answer ≡ Err (Records i) → WrongLength b i ⊎ FirstBad rows cols b i
  unfolding first_of
  strike_index slot i e = go (first_of (call_checks (CloseUp rows cols) b)) refl
    where
      said : first_of (call_checks (Strike rows cols slot) b) ≡ Err (Records i)
      said = refusal_of (Strike rows cols slot) b (Records i) e

      go : (w : Result ⊤ Refusal) → first_of (call_checks (CloseUp rows cols) b) ≡ w → WrongLength b i ⊎ FirstBad rows cols b i
      go (Err r) f = let same : ◌≡◌ {A = Result ⊤ Refusal} (Err r) (Err (Records i)) = sym (strike_stops rows cols b slot r f) ∙ said in store_index i (f ∙ same)
      go (Ok _) f = absurd (spot_said _ i (sym (strike_over rows cols b slot f) ∙ said))

  -- adding: the same, or the new record with the slot count
  pub add-index : (new : List ℕ) (i : ℕ) → (call_of (Add rows cols new) b).answer ≡ Err (Records i) → (WrongLength b i ⊎ FirstBad rows cols b i) ⊎ BadNew rows cols new b i
  unfolding first_of
  add-index new i e = go (first_of (call_checks (CloseUp rows cols) b)) refl
    where
      said : first_of (call_checks (Add rows cols new) b) ≡ Err (Records i)
      said = refusal_of (Add rows cols new) b (Records i) e

      go : (w : Result ⊤ Refusal) → first_of (call_checks (CloseUp rows cols) b) ≡ w → (WrongLength b i ⊎ FirstBad rows cols b i) ⊎ BadNew rows cols new b i
      go (Err r) f = let same : ◌≡◌ {A = Result ⊤ Refusal} (Err r) (Err (Records i)) = sym (add_stops rows cols b new r f) ∙ said in inl (store_index i (f ∙ same))
      go (Ok _) f =
          let p = new_said (not (good_new rows cols new)) _ _ i (sym (add_over rows cols b new f) ∙ said) in
          inr (record { bad = not-true _ p.0; count = p.1 })
