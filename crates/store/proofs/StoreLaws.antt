-- What a call's definition settles: the first refusal that applies, by its place; that a refusal changes nothing; what a call that is done had; that the buffer
-- keeps its length. Assumes nothing.
use Rattle.std.specs.Prelude.{Result, Ok, Err, ⊤}
use Prim.Native.Nat.{ℕ, ◌-◌, ◌/◌, ◌%◌, ◌≤◌, ◌<◌}
use native.Mathlib.Nat.{le_trans}
use native.Mathlib.Omega.{arith}
use mathlib.Core.Bool.{Bool, true, false, cond, false≢true}
use mathlib.Core.Path.{◌≡◌, refl, ap}
use mathlib.Core.List.{List, [], ◌∷◌, ◌++◌}
use lib.Dec.{eqb}
use lib.ListN.{length, get_or, replicate, length-append, length-set, length-replicate}
use borrow.Author.Tests.{ltb-false, leb-false, eqb-true, not-false}
use Rattle.float.proofs.Bools.{both}
use Rattle.tables.specs.declared.Refusal.{Refusal}
use Rattle.tables.specs.Refusal.{Check, first_of, First, sides_check}
use Rattle.tables.proofs.RefusalLaws as laws
use Rattle.record.specs.Layout.{spot_width, record_from}
use Rattle.record.specs.Readable.{readable}
use Rattle.store_slots.specs.Slots.{free_bytes, is_free, slots_of, flat, first_where, bad_slot}
use Rattle.store.specs.Store.{Call, Clear, Add, Strike, CloseUp, good_new, whole_check, slots_check, new_check, room_check, spot_check, call_checks, live_slots, closed_up, answer_of, slots_after, Outcome, outcome, finished, call_of}
use Rattle.store.specs.Steps.{Whole}
use Rattle.store_slots.proofs.SlotLaws.{Sized, sized_set, sized_append, sized_frees, sized_slots, length-free, count_of, length-flat}
use Rattle.store_slots.proofs.SearchLaws.{where_first}

-- ---- live slots

pub live-most : (ss : List (List ℕ)) → length (live_slots ss) ≤ length ss
unfolding live_slots
live-most [] = omega arith
live-most (s ∷ ss) = go (is_free s) (live-most ss)
  where
    go : (t : Bool) → length (live_slots ss) ≤ length ss → length (cond t (live_slots ss) (s ∷ live_slots ss)) ≤ length (s ∷ ss)
    go true h = omega arith
    go false h = omega arith

pub sized_live : (ss : List (List ℕ)) → Sized ss → Sized (live_slots ss)
unfolding live_slots Sized
sized_live [] p = p
sized_live (s ∷ ss) p = go (is_free s) (sized_live ss p.1)
  where
    go : (t : Bool) → Sized (live_slots ss) → Sized (cond t (live_slots ss) (s ∷ live_slots ss))
    go true q = q
    go false q = (p.0, q)

pub sized_closed : (ss : List (List ℕ)) → Sized ss → Sized (closed_up ss)
unfolding closed_up
sized_closed ss p = sized_append (live_slots ss) _ (sized_live ss p) (sized_frees (length ss - length (live_slots ss)))

pub length_closed : (ss : List (List ℕ)) → length (closed_up ss) ≡ length ss
unfolding closed_up
length_closed ss =
    let k : ℕ = length ss - length (live_slots ss) in
    omega (arith, length-append (live_slots ss) (replicate k free_bytes), length-replicate k free_bytes, live-most ss)

-- ---- what a call that is done had

whole_of : (b : List ℕ) → (whole_check b).holds ≡ false → Whole b
whole_of b e = eqb-true (length b % spot_width) 0 (not-false _ e)

-- what every call but clearing checks first
pub record Passed (rows cols : ℕ) (b : List ℕ) : Type 0 where
  pub rows-most : rows ≤ 4096
  pub cols-most : cols ≤ 4096
  pub whole : Whole b
  pub fair : (i : ℕ) → i < length b / spot_width → bad_slot rows cols (get_or (slots_of b) i []) ≡ false

-- the checks that it does so by
abbrev pub store_checks : ℕ → ℕ → List ℕ → List Check
store_checks rows cols b = sides_check rows cols ∷ whole_check b ∷ slots_check rows cols b ∷ []

module _ (rows cols : ℕ) (b : List ℕ) where
  pub passed : (rest : List Check) → first_of (store_checks rows cols b ++ rest) ≡ Ok tt → Passed rows cols b × (first_of rest ≡ Ok tt)
  unfolding first_of
  passed rest h =
      let sides = laws.unless-fine (sides_check rows cols).holds _ _ h in
      let whole = laws.unless-fine (whole_check b).holds _ _ sides.1 in
      let fair = laws.unless-fine (slots_check rows cols b).holds _ _ whole.1 in
      let most = laws.sides_most rows cols sides.0 in
      let all : length b / spot_width ≤ first_where (bad_slot rows cols) (slots_of b) = ltb-false _ _ fair.0 in (
        record {
          rows-most = most.0;
          cols-most = most.1;
          whole = whole_of b whole.0;
          fair = λ i less. where_first (bad_slot rows cols) (slots_of b) [] i (le_trans less all);
        },
        fair.1,
      )

  pub close_passed : first_of (call_checks (CloseUp rows cols) b) ≡ Ok tt → Passed rows cols b
  unfolding call_checks
  close_passed h = (passed [] h).0

  pub strike_passed : (i : ℕ) → first_of (call_checks (Strike rows cols i) b) ≡ Ok tt → Passed rows cols b × (is_free (get_or (slots_of b) i free_bytes) ≡ false)
  unfolding call_checks first_of
  strike_passed i h = let p = passed (spot_check i b ∷ []) h in (p.0, (laws.unless-fine (spot_check i b).holds _ _ p.1).0)

  -- adding and striking begin with what closing up checks: it decides, or what follows it does
  pub add_over : (new : List ℕ) → first_of (call_checks (CloseUp rows cols) b) ≡ Ok tt → first_of (call_checks (Add rows cols new) b) ≡ first_of (new_check rows cols new b ∷ room_check b ∷ [])
  unfolding call_checks
  add_over new h = laws.first_over (store_checks rows cols b) (new_check rows cols new b ∷ room_check b ∷ []) h

  pub add_stops : (new : List ℕ) (r : Refusal) → first_of (call_checks (CloseUp rows cols) b) ≡ Err r → first_of (call_checks (Add rows cols new) b) ≡ Err r
  unfolding call_checks
  add_stops new r h = laws.first_stops (store_checks rows cols b) (new_check rows cols new b ∷ room_check b ∷ []) r h

  pub strike_over : (i : ℕ) → first_of (call_checks (CloseUp rows cols) b) ≡ Ok tt → first_of (call_checks (Strike rows cols i) b) ≡ first_of (spot_check i b ∷ [])
  unfolding call_checks
  strike_over i h = laws.first_over (store_checks rows cols b) (spot_check i b ∷ []) h

  pub strike_stops : (i : ℕ) (r : Refusal) → first_of (call_checks (CloseUp rows cols) b) ≡ Err r → first_of (call_checks (Strike rows cols i) b) ≡ Err r
  unfolding call_checks
  strike_stops i r h = laws.first_stops (store_checks rows cols b) (spot_check i b ∷ []) r h

-- what adding checks
pub record PassedAdd (rows cols : ℕ) (new b : List ℕ) : Type 0 where
  pub store : Passed rows cols b
  pub long : length new ≡ spot_width
  pub new_readable : readable rows cols (record_from new 0) ≡ true
  pub room : first_where is_free (slots_of b) < length b / spot_width

pub add-passed : (rows cols : ℕ) (new b : List ℕ) → first_of (call_checks (Add rows cols new) b) ≡ Ok tt → PassedAdd rows cols new b
unfolding call_checks first_of good_new
add-passed rows cols new b h =
    let p = passed rows cols b (new_check rows cols new b ∷ room_check b ∷ []) h in
    let good = laws.unless-fine (new_check rows cols new b).holds _ _ p.1 in
    let room = laws.unless-fine (room_check b).holds _ _ good.1 in
    let parts = both (eqb (length new) spot_width) (readable rows cols (record_from new 0)) (not-false _ good.0) in
    record { store = p.0; long = eqb-true (length new) spot_width parts.0; new_readable = parts.1; room = leb-false _ _ room.0 }

-- ---- the slots afterwards

-- whatever the call, a buffer of whole slots stays one: its slots are as long as records, and as many as before
pub whole-passed : (c : Call) (b : List ℕ) → first_of (call_checks c b) ≡ Ok tt → Whole b
unfolding call_checks first_of
whole-passed Clear b h = whole_of b (laws.unless-fine (whole_check b).holds _ _ h).0
whole-passed (Add rows cols new) b h = (add-passed rows cols new b h).store.whole
whole-passed (Strike rows cols i) b h = (strike_passed rows cols b i h).0.whole
whole-passed (CloseUp rows cols) b h = (close_passed rows cols b h).whole

pub sized_after : (c : Call) (b : List ℕ) → first_of (call_checks c b) ≡ Ok tt → Sized (slots_after c (slots_of b))
unfolding slots_after
sized_after Clear b h = sized_frees (length (slots_of b))
sized_after (Add rows cols new) b h = sized_set (slots_of b) (first_where is_free (slots_of b)) new (sized_slots b) (add-passed rows cols new b h).long
sized_after (Strike rows cols i) b h = sized_set (slots_of b) i free_bytes (sized_slots b) length-free
sized_after (CloseUp rows cols) b h = sized_closed (slots_of b) (sized_slots b)

pub count-after : (c : Call) (ss : List (List ℕ)) → length (slots_after c ss) ≡ length ss
unfolding slots_after
count-after Clear ss = length-replicate (length ss) free_bytes
count-after (Add rows cols new) ss = length-set ss (first_where is_free ss) new
count-after (Strike rows cols i) ss = length-set ss i free_bytes
count-after (CloseUp rows cols) ss = length_closed ss

-- ---- a call

answer-refused : (w : Result ⊤ Refusal) (b : List ℕ) (o : Outcome) (r : Refusal) → ((q : Refusal) → o.answer ≡ Err q → ⊥) → (finished w b o).answer ≡ Err r → w ≡ Err r
unfolding finished
answer-refused (Err q) b o r n e = cc
answer-refused (Ok _) b o r n e = absurd (n r e)

never_refused : (c : Call) (ss : List (List ℕ)) (q : Refusal) → answer_of c ss ≡ Err q → ⊥
unfolding answer_of
never_refused Clear ss q e = false≢true cc
never_refused (Add rows cols new) ss q e = false≢true cc
never_refused (Strike rows cols i) ss q e = false≢true cc
never_refused (CloseUp rows cols) ss q e = false≢true cc

module _ (c : Call) (b : List ℕ) where
  -- what no check refuses is done
  pub call_done : first_of (call_checks c b) ≡ Ok tt → call_of c b ≡ outcome (answer_of c (slots_of b)) (flat (slots_after c (slots_of b)))
  unfolding call_of finished
  call_done h = rw h

  -- and what one refuses is refused
  pub call_refused : (r : Refusal) → first_of (call_checks c b) ≡ Err r → call_of c b ≡ outcome (Err r) b
  unfolding call_of finished
  call_refused r h = rw h

  -- what is refused is what a check refused
  pub refusal_of : (r : Refusal) → (call_of c b).answer ≡ Err r → first_of (call_checks c b) ≡ Err r
  unfolding call_of
  refusal_of r e = answer-refused _ b _ r (never_refused c (slots_of b)) e

  -- a refusal that is answered is that of the first check that holds
  pub refused-first : (r : Refusal) → (call_of c b).answer ≡ Err r → First (call_checks c b) r
  refused-first r e = laws.first-refused (call_checks c b) r (refusal_of r e)

  -- and the first that holds is answered
  pub first_answered : (r : Refusal) → First (call_checks c b) r → (call_of c b).answer ≡ Err r
  first_answered r f = rw (call_refused r (laws.refused-first (call_checks c b) r f))

  -- a refusal changes nothing
  pub refused_keeps : (r : Refusal) → (call_of c b).answer ≡ Err r → (call_of c b).buffer ≡ b
  refused_keeps r e = rw (call_refused r (refusal_of r e))

  -- an answer that is no refusal was checked
  pub done-fine : ((r : Refusal) → (call_of c b).answer ≡ Err r → ⊥) → first_of (call_checks c b) ≡ Ok tt
  done-fine n = go (first_of (call_checks c b)) refl
    where
      go : (w : Result ⊤ Refusal) → first_of (call_checks c b) ≡ w → first_of (call_checks c b) ≡ Ok tt
      go (Err r) e = absurd (n r (ap (λ (o : Outcome). o.answer) (call_refused r e)))
      go (Ok _) e = e

  -- the buffer keeps its length
  pub length-kept : length (call_of c b).buffer ≡ length b
  length-kept = go (first_of (call_checks c b)) refl
    where
      go : (w : Result ⊤ Refusal) → first_of (call_checks c b) ≡ w → length (call_of c b).buffer ≡ length b
      go (Err r) e = rw (call_refused r e)
      go (Ok _) e =
          rw (call_done e)
          (omega (arith, length-flat (slots_after c (slots_of b)) (sized_after c b e), count-after c (slots_of b), count_of b, whole-passed c b e))
