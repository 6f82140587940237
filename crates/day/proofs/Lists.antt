-- What closing up leaves: the live records first, in their order, bit for bit, then free slots; a closed store stays as it is; and its live bytes are a list that
-- the join takes. Assumes nothing.
use Rattle.std.specs.Prelude.{Result, Ok, Err}
use Prim.Native.Nat.{ℕ, zero, suc, ◌+◌, ◌-◌, ◌*◌, ◌/◌, ◌≤◌, ◌<◌}
use native.Mathlib.Nat.{not-suc-le-zero, le_of_suc-le-suc}
use native.Mathlib.Omega.{arith}
use mathlib.Core.Bool.{Bool, true, false, not, cond, ◌||◌, false≢true}
use mathlib.Core.Path.{◌≡◌, refl, sym, ap, ◌∙◌}
use mathlib.Core.List.{List, [], ◌∷◌, ◌++◌, append_assoc}
use lib.ListN.{length, get_or, take, replicate}
use lib.Seq.{length-take-le, take_at, get_or-take, get_or-append-add}
use borrow.Author.Tests.{not-false}
use Rattle.tables.specs.declared.Set.{Set}
use Rattle.tables.specs.declared.Refusal.TheVariants.{Records}
use Rattle.tables.specs.Set.{good}
use Rattle.tables.specs.Refusal.{first_of}
use Rattle.record.specs.Layout.{spot_width, record_from, record_at}
use Rattle.record.specs.Readable.{readable}
use Rattle.record.proofs.Converse.{record-own}
use Rattle.sized.specs.Sized.{sized_width}
use Rattle.join.specs.Join.{join_checks, join_of}
use Rattle.join.proofs.TakenLaws.{Taken, taken_records, taken_joined}
use Rattle.store_slots.specs.Slots.{free_bytes, is_free, slots_of, flat, bad_slot}
use Rattle.store.specs.Store.{CloseUp, call_checks, live_slots, closed_up, answer_of, slots_after, Outcome, outcome, call_of}
use Rattle.tables.specs.declared.Refusal.{Refusal}
use Rattle.store.specs.declared.Stored.{Stored}
use Rattle.store.specs.declared.Stored.TheVariants.{Live}
use Rattle.store_slots.proofs.SlotLaws.{sized_slots, length-flat, free-is, free-is-free, count_of, slots_of-flat, flat-slots_of, slot_is}
use Rattle.store.proofs.StoreLaws.{close_passed, sized_live, sized_closed, call_done, done-fine}
use Rattle.day.specs.Claims.{Closed, list_of}

-- ---- live slots

flat_append : (ss tt : List (List ℕ)) → flat (ss ++ tt) ≡ flat ss ++ flat tt
unfolding flat
flat_append [] tt = refl
flat_append (s ∷ ss) tt = ap (λ (r : List ℕ). s ++ r) (flat_append ss tt) ∙ sym (append_assoc s (flat ss) (flat tt))

-- each is live
live-held : (ss : List (List ℕ)) (d : List ℕ) (k : ℕ) → k < length (live_slots ss) → is_free (get_or (live_slots ss) k d) ≡ false
unfolding live_slots
live-held [] d k h = absurd (not-suc-le-zero h)
live-held (s ∷ ss) d k h = go (is_free s) refl k h (λ j l. live-held ss d j l)
  where
    go : (t : Bool) → is_free s ≡ t → (k : ℕ) → k < length (cond t (live_slots ss) (s ∷ live_slots ss)) → ((j : ℕ) → j < length (live_slots ss) → is_free (get_or (live_slots ss) j d) ≡ false)
        → is_free (get_or (cond t (live_slots ss) (s ∷ live_slots ss)) k d) ≡ false
    go true e k h further = further k h
    go false e zero h further = e
    go false e (suc k) h further = further k (le_of_suc-le-suc h)

-- and readable where no slot is bad
live-readable : (rows cols : ℕ) (ss : List (List ℕ)) (d : List ℕ) → ((k : ℕ) → k < length ss → bad_slot rows cols (get_or ss k d) ≡ false)
    → (k : ℕ) → k < length (live_slots ss) → readable rows cols (record_from (get_or (live_slots ss) k d) 0) ≡ true
unfolding live_slots bad_slot
live-readable rows cols [] d fair k h = absurd (not-suc-le-zero h)
live-readable rows cols (s ∷ ss) d fair k h = go (is_free s) refl (fair 0 (omega arith)) k h (λ j l. live-readable rows cols ss d (λ i less. fair (suc i) (omega arith)) j l)
  where
    go : (t : Bool) → is_free s ≡ t → not (is_free s || readable rows cols (record_from s 0)) ≡ false → (k : ℕ) → k < length (cond t (live_slots ss) (s ∷ live_slots ss))
        → ((j : ℕ) → j < length (live_slots ss) → readable rows cols (record_from (get_or (live_slots ss) j d) 0) ≡ true)
        → readable rows cols (record_from (get_or (cond t (live_slots ss) (s ∷ live_slots ss)) k d) 0) ≡ true
    go true e f k h further = further k h
    go false e f zero h further = not-false _ (rw e at f)
    go false e f (suc k) h further = further k (le_of_suc-le-suc h)

-- ---- a closed store

-- a free slot among free ones
free_among : (n k : ℕ) → get_or (replicate n free_bytes) k free_bytes ≡ free_bytes
free_among zero k = refl
free_among (suc n) zero = refl
free_among (suc n) (suc k) = free_among n k

-- slots of which the first n are live and the others free
settled : (ss : List (List ℕ)) (n : ℕ) → n ≤ length ss → ((k : ℕ) → k < n → is_free (get_or ss k free_bytes) ≡ false) → ((k : ℕ) → n ≤ k → is_free (get_or ss k free_bytes) ≡ true)
    → (live_slots ss ≡ take n ss) × (ss ≡ take n ss ++ replicate (length ss - n) free_bytes)
unfolding live_slots
settled [] zero h live rest = (refl, refl)
settled [] (suc n) h live rest = absurd (not-suc-le-zero h)
settled (s ∷ ss) zero h live rest =
    let free = rest 0 (omega arith) in
    let further = settled ss zero (omega arith) (λ k less. let z : ⊥ = omega arith in absurd z) (λ k more. rest (suc k) (omega arith)) in
    let all : length ss - 0 ≡ length ss = omega arith in
    let left : suc (length ss) - 0 ≡ suc (length ss) = omega arith in
    (rw free further.0, rw (free-is s free, left) (ap {B = List (List ℕ)} (λ r. free_bytes ∷ r) (rw all at further.1)))
settled (s ∷ ss) (suc n) h live rest =
    let further = settled ss n (omega arith) (λ k less. live (suc k) (omega arith)) (λ k more. rest (suc k) (omega arith)) in
    let left : suc (length ss) - suc n ≡ length ss - n = omega arith in
    (rw (live 0 (omega arith)) (ap {B = List (List ℕ)} (λ r. s ∷ r) further.0), rw left (ap {B = List (List ℕ)} (λ r. s ∷ r) further.1))

-- closing up is the identity on a closed store
pub closed_kept : (rows cols n : ℕ) (b : List ℕ) → first_of (call_checks (CloseUp rows cols) b) ≡ Ok tt → n ≤ length b / spot_width → Closed b n
    → call_of (CloseUp rows cols) b ≡ outcome (Ok (Live n)) b
unfolding answer_of slots_after closed_up
closed_kept rows cols n b fine most closed =
    let p = settled (slots_of b) n (omega (arith, count_of b)) closed.live closed.rest in
    let count : length (live_slots (slots_of b)) ≡ n = ap length p.0 ∙ length-take-le n (slots_of b) (omega (arith, count_of b)) in
    call_done (CloseUp rows cols) b fine ∙ rw (count, p.0, ← p.1, flat-slots_of b (close_passed rows cols b fine).whole)

-- ---- what closing up leaves

module _ (rows cols n : ℕ) (b : List ℕ) (closed : (call_of (CloseUp rows cols) b).answer ≡ Ok (Live n)) where
  -- the buffer afterwards
  abbrev after : List ℕ
  after = (call_of (CloseUp rows cols) b).buffer

  -- the live slots before
  abbrev held : List (List ℕ)
  held = live_slots (slots_of b)

  fine : first_of (call_checks (CloseUp rows cols) b) ≡ Ok tt
  fine = done-fine (CloseUp rows cols) b (λ r f. false≢true cc)

  after_is : call_of (CloseUp rows cols) b ≡ outcome (Ok (Live (length held))) (flat (closed_up (slots_of b)))
  unfolding answer_of slots_after
  after_is = call_done (CloseUp rows cols) b fine

  -- the live number is answered
  pub closed_count : n ≡ length held
  closed_count = let e : ◌≡◌ {A = Result Stored Refusal} (Ok (Live n)) (Ok (Live (length held))) = sym closed ∙ ap (λ (o : Outcome). o.answer) after_is in cc

  -- the free slots behind them
  abbrev behind : List (List ℕ)
  behind = replicate (length (slots_of b) - length held) free_bytes

  bytes_after : after ≡ flat (held ++ behind)
  unfolding closed_up
  bytes_after = ap (λ (o : Outcome). o.buffer) after_is

  slots_after_lem : slots_of after ≡ held ++ behind
  unfolding closed_up
  slots_after_lem = ap slots_of bytes_after ∙ slots_of-flat (held ++ behind) (sized_closed (slots_of b) (sized_slots b))

  -- the first n bytes' worth is the live records, in the order of their slots, bit for bit
  pub closed_list : list_of after n ≡ flat held
  closed_list =
      let long : length (flat held) ≡ n * spot_width = omega (arith, length-flat held (sized_live (slots_of b) (sized_slots b)), closed_count) in
      ap (take (n * spot_width)) (bytes_after ∙ flat_append held behind) ∙ take_at (flat held) (flat behind) (n * spot_width) long

  pub closed_first : take n (slots_of after) ≡ held
  closed_first = ap (take n) slots_after_lem ∙ take_at held behind n (sym closed_count)

  -- they are live, and the slots behind them free
  pub closed_closed : Closed after n
  closed_closed = record {
    live = λ k less. rw (← get_or-take n (slots_of after) k free_bytes less, closed_first) (live-held (slots_of b) free_bytes k (omega (arith, closed_count)));
    rest = λ k more. rw (slots_after_lem, free-behind k more) free-is-free;
  }
    where
      free-behind : (k : ℕ) → n ≤ k → get_or (held ++ behind) k free_bytes ≡ free_bytes
      free-behind k more =
          let place : length held + (k - length held) ≡ k = omega (arith, closed_count) in
          ap (λ (j : ℕ). get_or (held ++ behind) j free_bytes) (sym place) ∙ get_or-append-add held behind (k - length held) free_bytes ∙ free_among (length (slots_of b) - length held) (k - length held)

  -- ---- the way to sizes

  -- the k-th record of the list is that of the k-th live slot
  pub list_records : (k : ℕ) → k < n → record_at (list_of after n) k ≡ record_from (get_or held k []) 0
  list_records k less =
      let sized = sized_live (slots_of b) (sized_slots b) in
      let inside : k < length (flat held) / spot_width = omega (arith, length-flat held sized, closed_count) in
      rw closed_list
      (sym (record-own (flat held) (k * spot_width)) ∙ ap (λ (s : List ℕ). record_from s 0) (slot_is (flat held) k [] inside ∙ ap (λ (ss : List (List ℕ)). get_or ss k []) (slots_of-flat held sized)))

  taken : Taken rows cols n (list_of after n)
  taken =
      let p = close_passed rows cols b fine in
      record {
        rows-most = p.rows-most;
        cols-most = p.cols-most;
        long = rw closed_list (omega (arith, length-flat held (sized_live (slots_of b) (sized_slots b)), closed_count));
        fair = λ k less. rw (list_records k less) (live-readable rows cols (slots_of b) [] (λ i l. p.fair i (omega (arith, count_of b))) k (omega (arith, closed_count)));
      }

  -- the join never refuses the list with 5, whatever the set and the room
  pub closed_never_records : (s : Set) (room i : ℕ) → first_of (join_checks false s rows cols (list_of after n) room) ≡ Err (Records i) → ⊥
  closed_never_records s room i = taken_records rows cols n (list_of after n) taken s room i

  -- and with a good set and room for the sized records it takes each
  pub closed_joined : (s : Set) (out : List ℕ) → good s ≡ true → n * sized_width ≤ length out → (join_of s rows cols (list_of after n) out).answer ≡ Ok n
  closed_joined s out is-good h = taken_joined rows cols n (list_of after n) taken s out is-good h
