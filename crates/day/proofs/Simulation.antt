-- The store is a simple list of optional spots: each call commutes with the list's, and so does any sequence of calls. Assumes nothing.
use Rattle.std.specs.Prelude.{Result, Ok, Err, ⊤}
use Prim.Native.Nat.{ℕ, zero, suc, ◌-◌, ◌/◌, ◌%◌}
use mathlib.Core.Bool.{Bool, true, false, not, cond, ◌||◌}
use mathlib.Core.Path.{◌≡◌, refl, sym, ap, ◌∙◌}
use mathlib.Core.List.{List, [], ◌∷◌, ◌++◌, map, map-append}
use mathlib.Core.Option.{Option, none, some}
use lib.ListN.{length, get_or, set, replicate, length-map, get_or-map}
use borrow.Author.Tests.{eq-eqb}
use Rattle.tables.specs.Refusal.{first_of, unless}
use Rattle.tables.specs.declared.Refusal.{Refusal}
use Rattle.record.specs.Layout.{spot_width, record_from}
use Rattle.record.specs.Readable.{readable}
use Rattle.store_slots.specs.Slots.{free_bytes, is_free, slots_of, first_where, bad_slot}
use Rattle.store.specs.Store.{Call, Clear, Add, Strike, CloseUp, good_new, call_checks, live_slots, closed_up, answer_of, slots_after, Outcome, call_of}
use Rattle.store.specs.declared.Stored.{Stored}
use Rattle.store_slots.proofs.SlotLaws.{free-is-free, readable-not-free, count_of, slots_of-flat}
use Rattle.store.proofs.StoreLaws.{add-passed, whole-passed, sized_after, call_done, call_refused, length-kept}
use Rattle.day.specs.Model.{result, is_none, lowest, live, first_bad, list_checks, done_list, ended_list, call_list}
use Rattle.day.specs.Runs.{buffer_after, answers_of, list_after, list_answers, spot_of, spots_by, record_in, spots_of, bytes_in}

-- ---- lists

map-set : {A B : Type 0} (f : A → B) (l : List A) (i : ℕ) (x : A) → map f (set l i x) ≡ set (map f l) i (f x)
map-set f [] i x = refl
map-set f (y ∷ l) zero x = refl
map-set f (y ∷ l) (suc i) x = ap {B = List _} (λ r. f y ∷ r) (map-set f l i x)

map-replicate : {A B : Type 0} (f : A → B) (n : ℕ) (x : A) → map f (replicate n x) ≡ replicate n (f x)
map-replicate f zero x = refl
map-replicate f (suc n) x = ap {B = List _} (λ r. f x ∷ r) (map-replicate f n x)

-- A spot may be the record that a slot holds, or anything else that is made of a slot's bytes, where readable means what it means of the record.
module _ {A : Type 0} (ok : ℕ → ℕ → A → Bool) (read : List ℕ → A) (ok_is : (rows cols : ℕ) (s : List ℕ) → ok rows cols (read s) ≡ readable rows cols (record_from s 0)) where
  abbrev spot : List ℕ → Option A
  spot s = spot_of read s

  abbrev spots : List (List ℕ) → List (Option A)
  spots ss = map spot ss

  -- ---- one slot

  spot-free : (s : List ℕ) → is_free s ≡ true → spot s ≡ none
  unfolding spot_of
  spot-free s e = rw e

  spot-live : (s : List ℕ) → is_free s ≡ false → spot s ≡ some (read s)
  unfolding spot_of
  spot-live s e = rw e

  none_free : (s : List ℕ) → is_none (spot s) ≡ is_free s
  unfolding is_none
  none_free s = go (is_free s) refl
    where
      go : (t : Bool) → is_free s ≡ t → is_none (spot s) ≡ is_free s
      go true e = rw (spot-free s e, e)
      go false e = rw (spot-live s e, e)

  -- ---- the searches

  bad-same : (rows cols : ℕ) (ss : List (List ℕ)) → first_bad (ok rows cols) (spots ss) ≡ first_where (bad_slot rows cols) ss
  unfolding first_bad first_where bad_slot
  bad-same rows cols [] = refl
  bad-same rows cols (s ∷ ss) = go (is_free s) refl (readable rows cols (record_from s 0)) refl (bad-same rows cols ss)
    where
      go : (t : Bool) → is_free s ≡ t → (u : Bool) → readable rows cols (record_from s 0) ≡ u → first_bad (ok rows cols) (spots ss) ≡ first_where (bad_slot rows cols) ss
          → first_bad (ok rows cols) (spot s ∷ spots ss) ≡ cond (not (is_free s || readable rows cols (record_from s 0))) 0 (suc (first_where (bad_slot rows cols) ss))
      go true e u f h = rw (spot-free s e, e, h)
      go false e true f h = rw (spot-live s e, e, ok_is rows cols s, f, h)
      go false e false f h = rw (spot-live s e, e, ok_is rows cols s, f)

  lowest-same : (ss : List (List ℕ)) → lowest (spots ss) ≡ first_where is_free ss
  unfolding lowest first_where
  lowest-same [] = refl
  lowest-same (s ∷ ss) = go (is_free s) refl (lowest-same ss)
    where
      go : (t : Bool) → is_free s ≡ t → lowest (spots ss) ≡ first_where is_free ss → lowest (spot s ∷ spots ss) ≡ cond (is_free s) 0 (suc (first_where is_free ss))
      go true e h = rw (spot-free s e, e)
      go false e h = rw (spot-live s e, e, h)

  live_same : (ss : List (List ℕ)) → live (spots ss) ≡ map read (live_slots ss)
  unfolding live live_slots
  live_same [] = refl
  live_same (s ∷ ss) = go (is_free s) refl (live_same ss)
    where
      go : (t : Bool) → is_free s ≡ t → live (spots ss) ≡ map read (live_slots ss) → live (spot s ∷ spots ss) ≡ map read (cond (is_free s) (live_slots ss) (s ∷ live_slots ss))
      go true e h = rw (spot-free s e, e) h
      go false e h = rw (spot-live s e, e, h)

  live-spots : (ss : List (List ℕ)) → spots (live_slots ss) ≡ map some (map read (live_slots ss))
  unfolding live_slots
  live-spots [] = refl
  live-spots (s ∷ ss) = go (is_free s) refl (live-spots ss)
    where
      go : (t : Bool) → is_free s ≡ t → spots (live_slots ss) ≡ map some (map read (live_slots ss))
          → spots (cond (is_free s) (live_slots ss) (s ∷ live_slots ss)) ≡ map some (map read (cond (is_free s) (live_slots ss) (s ∷ live_slots ss)))
      go true e h = rw e h
      go false e h = rw (e, spot-live s e, h)

  live-count : (ss : List (List ℕ)) → length (live (spots ss)) ≡ length (live_slots ss)
  live-count ss = ap length (live_same ss) ∙ length-map (live_slots ss) read

  closed_same : (ss : List (List ℕ)) → map some (live (spots ss)) ++ replicate (length (spots ss) - length (live (spots ss))) none ≡ spots (closed_up ss)
  unfolding closed_up
  closed_same ss =
      rw (live-count ss, length-map ss spot, live_same ss, map-append spot (live_slots ss), live-spots ss, map-replicate spot (length ss - length (live_slots ss)) free_bytes, spot-free free_bytes free-is-free)

  -- ---- a call on a buffer of whole slots

  module _ (b : List ℕ) (whole : length b % spot_width ≡ 0) where
    count_same : length (spots (slots_of b)) ≡ length b / spot_width
    count_same = length-map (slots_of b) spot ∙ count_of b

    at_same : (i : ℕ) → is_none (get_or (spots (slots_of b)) i none) ≡ is_free (get_or (slots_of b) i free_bytes)
    at_same i =
        ap (λ (d : Option A). is_none (get_or (spots (slots_of b)) i d)) (sym (spot-free free_bytes free-is-free))
        ∙ ap is_none (get_or-map spot (slots_of b) i free_bytes)
        ∙ none_free (get_or (slots_of b) i free_bytes)

    -- the checks refuse the same
    checks_same : (c : Call) → first_of (list_checks ok read c (spots (slots_of b))) ≡ first_of (call_checks c b)
    unfolding list_checks call_checks first_of unless good_new
    checks_same Clear = rw (eq-eqb (length b % spot_width) 0 whole)
    checks_same (Add rows cols new) =
        rw (bad-same rows cols (slots_of b), count_same, eq-eqb (length b % spot_width) 0 whole, ok_is rows cols new, lowest-same (slots_of b))
    checks_same (Strike rows cols i) = rw (bad-same rows cols (slots_of b), count_same, eq-eqb (length b % spot_width) 0 whole, at_same i)
    checks_same (CloseUp rows cols) = rw (bad-same rows cols (slots_of b), count_same, eq-eqb (length b % spot_width) 0 whole)

    -- and what no check refuses answers and leaves the same
    done-same : (c : Call) → first_of (call_checks c b) ≡ Ok tt → done_list ok read c (spots (slots_of b)) ≡ result (answer_of c (slots_of b)) (spots (slots_after c (slots_of b)))
    unfolding done_list answer_of slots_after
    done-same Clear h = rw (length-map (slots_of b) spot, map-replicate spot (length (slots_of b)) free_bytes, spot-free free_bytes free-is-free)
    done-same (Add rows cols new) h =
        let p = add-passed rows cols new b h in
        rw (lowest-same (slots_of b), map-set spot (slots_of b) (first_where is_free (slots_of b)) new, spot-live new (readable-not-free rows cols new p.new_readable))
    done-same (Strike rows cols i) h = rw (map-set spot (slots_of b) i free_bytes, spot-free free_bytes free-is-free)
    done-same (CloseUp rows cols) h = rw (closed_same (slots_of b), live-count (slots_of b))

    -- one call on the list of spots answers what the call on the buffer answers, and leaves the buffer's spots
    pub call_same : (c : Call) → call_list ok read c (spots_by read b) ≡ result (call_of c b).answer (spots_by read (call_of c b).buffer)
    unfolding call_list ended_list
    call_same c = rw (checks_same c) (go (first_of (call_checks c b)) refl)
      where
        go : (w : Result ⊤ Refusal) → first_of (call_checks c b) ≡ w
            → ended_list ok read w (spots (slots_of b)) (done_list ok read c (spots (slots_of b))) ≡ result (call_of c b).answer (spots (slots_of (call_of c b).buffer))
        go (Err r) e = rw (call_refused c b r e)
        go (Ok _) e = rw (call_done c b e, slots_of-flat (slots_after c (slots_of b)) (sized_after c b e)) (done-same c e)

  -- ---- any sequence of calls

  kept_whole : (c : Call) (b : List ℕ) → length b % spot_width ≡ 0 → length (call_of c b).buffer % spot_width ≡ 0
  kept_whole c b h = rw (length-kept c b) h

  -- the live spots with their slots are those of the list
  pub spots-after : (cs : List Call) (b : List ℕ) → length b % spot_width ≡ 0 → list_after ok read cs (spots_by read b) ≡ spots_by read (buffer_after cs b)
  unfolding list_after buffer_after
  spots-after [] b h = refl
  spots-after (c ∷ cs) b h = rw (call_same b h c) (spots-after cs (call_of c b).buffer (kept_whole c b h))

  -- and each call answers what the list's answers
  pub answers-same : (cs : List Call) (b : List ℕ) → length b % spot_width ≡ 0 → list_answers ok read cs (spots_by read b) ≡ answers_of cs b
  unfolding list_answers answers_of
  answers-same [] b h = refl
  answers-same (c ∷ cs) b h = rw (call_same b h c) (ap {B = List (Result Stored Refusal)} (λ r. (call_of c b).answer ∷ r) (answers-same cs (call_of c b).buffer (kept_whole c b h)))

-- ---- spots as records, and as their bytes

-- from any buffer of whole slots, after any calls, the live records with their slots are those of the list
pub records_after : (cs : List Call) (b : List ℕ) → length b % spot_width ≡ 0 → list_after readable record_in cs (spots_of b) ≡ spots_of (buffer_after cs b)
records_after cs b h = spots-after readable record_in (λ rows cols s. refl) cs b h

-- and each call answers what the list's answers, refusals too
pub records_answers : (cs : List Call) (b : List ℕ) → length b % spot_width ≡ 0 → list_answers readable record_in cs (spots_of b) ≡ answers_of cs b
records_answers cs b h = answers-same readable record_in (λ rows cols s. refl) cs b h

-- a spot's bytes are readable where the record in them is
abbrev pub readable_bytes : ℕ → ℕ → List ℕ → Bool
readable_bytes rows cols s = readable rows cols (record_from s 0)

-- the same of the bytes: each byte of a record is kept
pub bytes_after : (cs : List Call) (b : List ℕ) → length b % spot_width ≡ 0 → list_after readable_bytes bytes_in cs (spots_by bytes_in b) ≡ spots_by bytes_in (buffer_after cs b)
bytes_after cs b h = spots-after readable_bytes bytes_in (λ rows cols s. refl) cs b h

-- after clearing, the list has as many nones as there are slots
pub cleared_spots : (cs : List Call) (b : List ℕ) → length b % spot_width ≡ 0 → spots_of (buffer_after (Clear ∷ cs) b) ≡ list_after readable record_in cs (replicate (length b / spot_width) none)
unfolding list_after call_list list_checks first_of ended_list done_list
cleared_spots cs b h =
    sym (records_after (Clear ∷ cs) b h)
    ∙ ap (λ (n : ℕ). list_after readable record_in cs (replicate n none)) (count_same readable record_in (λ rows cols s. refl) b h)

-- ---- bytes that are no whole slots

-- each call is refused, and leaves them
pub broken-kept : (c : Call) (b : List ℕ) → (length b % spot_width ≡ 0 → ⊥) → (call_of c b).buffer ≡ b
broken-kept c b broken = go (first_of (call_checks c b)) refl
  where
    go : (w : Result ⊤ Refusal) → first_of (call_checks c b) ≡ w → (call_of c b).buffer ≡ b
    go (Err r) e = ap (λ (o : Outcome). o.buffer) (call_refused c b r e)
    go (Ok _) e = absurd (broken (whole-passed c b e))

-- and so does any sequence
pub broken-after : (cs : List Call) (b : List ℕ) → (length b % spot_width ≡ 0 → ⊥) → buffer_after cs b ≡ b
unfolding buffer_after
broken-after [] b broken = refl
broken-after (c ∷ cs) b broken = rw (broken-kept c b broken) (broken-after cs b broken)
