-- What the join gives each spot: a size and a home from its own record alone, beside the record itself.
use Rattle.std.specs.Prelude.{Result, Ok, Err, ⊤}
use Prim.Native.Nat.{ℕ, zero, suc, ◌+◌, ◌*◌, ◌/◌, ◌≤◌, ◌<◌}
use native.Mathlib.Nat.{not-suc-le-zero, le_of_suc-le-suc, zero-add, zero-mul, add_comm}
use native.Mathlib.Omega.{arith}
use mathlib.Core.Bool.{Bool, true, false}
use mathlib.Core.List.{List, ◌++◌, append_assoc}
use mathlib.Core.Path.{◌≡◌, refl, sym, ap, ◌∙◌, subst}
use lib.ListN.{length, get_or, take, drop}
use lib.Seq.{take_at, take-take, drop-append-add}
use lib.Dec.{ltb}
use borrow.Author.Tests.{ltb-true}
use Rattle.tables.specs.Set.{all_under}
use Rattle.tables.specs.declared.Refusal.{Refusal}
use Rattle.tables.specs.Refusal.{first_of}
use Rattle.tables.specs.declared.Set.{Set}
use Rattle.tables.proofs.SetLaws.{every_or_default}
use Rattle.moves.proofs.MovesLaws.{nearby_bounds}
use Rattle.record.specs.declared.Record.{Record}
use Rattle.record.specs.Layout.{old_bytes, record_bytes, record_with, record_from, old_from}
use Rattle.record.specs.Readable.{readable}
use Rattle.record.proofs.LayoutLaws.{length-old_bytes, length-record_bytes}
use Rattle.record.proofs.ReadableLaws.{readable_parts}
use Rattle.record.proofs.Converse as converse
use Rattle.sized.specs.Sized.{size_of, sized_bytes, old_sized_bytes}
use Rattle.sized.proofs.SizeLaws.{no_cause-accepted, accepted_no_cause, accepted_at, cause_at, old_accepted_at, old_cause_at}
use Rattle.join.specs.Forms.{width_of, sized_width_of, record_in, sized_in}
use Rattle.join.specs.Join.{records_from, sized_all, join_checks, laid_sized, joined, join_by}
use Rattle.join.proofs.CheckLaws.{Passed, checks_passed}
use Rattle.join.proofs.SizedLaws.{length-sized_in, next_place}

-- ---- sized records, one after the other

module _ (old : Bool) (s : Set) (b : List ℕ) where
  abbrev w : ℕ
  w = sized_width_of old

  sized_among : (n k i : ℕ) (rest : List ℕ) → i < n → take w (drop (i * w) (sized_all old s (records_from old b n k) ++ rest)) ≡ sized_in old s (record_in old b (k + i))
  unfolding sized_all records_from
  sized_among zero k i rest h = absurd (not-suc-le-zero h)
  sized_among (suc n) k zero rest h =
      let own : List ℕ = sized_in old s (record_in old b k) in
      let same : k + zero ≡ k = omega arith in
      rw (zero-mul w, same, append_assoc own (sized_all old s (records_from old b n (suc k))) rest) (take_at own _ w (length-sized_in old s (record_in old b k)))
  sized_among (suc n) k (suc i) rest h =
      let own : List ℕ = sized_in old s (record_in old b k) in
      let place : suc i * w ≡ length own + i * w = next_place old i ∙ add_comm (i * w) w ∙ ap (λ (m : ℕ). m + i * w) (sym (length-sized_in old s (record_in old b k))) in
      let next : k + suc i ≡ suc k + i = omega arith in
      rw (place, next, append_assoc own (sized_all old s (records_from old b n (suc k))) rest, drop-append-add own (sized_all old s (records_from old b n (suc k)) ++ rest) (i * w)) (sized_among n (suc k) i rest (le_of_suc-le-suc h))

  pub laid_sized_at : (out : List ℕ) (i : ℕ) → i < length b / width_of old → take w (drop (i * w) (laid_sized old s b out)) ≡ sized_in old s (record_in old b i)
  unfolding laid_sized
  laid_sized_at out i h = sized_among (length b / width_of old) 0 i _ h ∙ ap (λ (k : ℕ). sized_in old s (record_in old b k)) (zero-add i)

-- ---- one sized record

-- accepted 1 stands in it exactly where cause 0 does, in the ninth and the tenth byte past the record
accepted_or_none : (old : Bool) (s : Set) (r : Record) → (get_or (sized_in old s r) (width_of old + 9) 0 ≡ 0 → get_or (sized_in old s r) (width_of old + 8) 0 ≡ 1)
    × (get_or (sized_in old s r) (width_of old + 8) 0 ≡ 1 → get_or (sized_in old s r) (width_of old + 9) 0 ≡ 0)
accepted_or_none true s r =
    (λ e. old_accepted_at s r ∙ no_cause-accepted (size_of s r) (sym (old_cause_at s r) ∙ e), λ e. old_cause_at s r ∙ accepted_no_cause (size_of s r) (sym (old_accepted_at s r) ∙ e))
accepted_or_none false s r =
    (λ e. accepted_at s r ∙ no_cause-accepted (size_of s r) (sym (cause_at s r) ∙ e), λ e. cause_at s r ∙ accepted_no_cause (size_of s r) (sym (accepted_at s r) ∙ e))

-- a readable record's own bytes stand first in it
own_first : (old : Bool) (s : Set) (rows cols i : ℕ) (list : List ℕ) → ((k : ℕ) → get_or list k 0 < 256) → length list ≡ length list / width_of old * width_of old → i < length list / width_of old
    → readable rows cols (record_in old list i) ≡ true → take (width_of old) (sized_in old s (record_in old list i)) ≡ take (width_of old) (drop (i * width_of old) list)
unfolding sized_bytes old_sized_bytes old_from record_from record_with
own_first true s rows cols i list bytes long inside fair =
    let parts = readable_parts rows cols _ fair in
    take_at (old_bytes (record_in true list i)) _ (width_of true) (length-old_bytes (record_in true list i)) ∙ converse.old_kept list bytes (i * width_of true) _ _ (omega arith) parts.floats
own_first false s rows cols i list bytes long inside fair =
    let parts = readable_parts rows cols _ fair in
    take_at (record_bytes (record_in false list i)) _ (width_of false) (length-record_bytes (record_in false list i))
    ∙ converse.record-kept list bytes (i * width_of false) (omega arith) parts.floats (nearby_bounds _ parts.dx).0 (nearby_bounds _ parts.dy).0

narrower : (old : Bool) → width_of old ≤ sized_width_of old
narrower true = omega arith
narrower false = omega arith

-- equal bytes are read as equal records
same_read : (old : Bool) (b c : List ℕ) (i j : ℕ) → take (width_of old) (drop (i * width_of old) b) ≡ take (width_of old) (drop (j * width_of old) c) → record_in old b i ≡ record_in old c j
same_read true b c i j e = converse.same-bytes-same_old b c (i * width_of true) (j * width_of true) e
same_read false b c i j e = converse.same-bytes-same-record b c (i * width_of false) (j * width_of false) e

-- ---- a call that answers a count

counted : (old : Bool) (w : Result ⊤ Refusal) (s : Set) (b out : List ℕ) (n : ℕ) → (joined old w s b out).answer ≡ Ok n
    → (w ≡ Ok tt) × (n ≡ length b / width_of old) × ((joined old w s b out).buffer ≡ laid_sized old s b out)
unfolding joined
counted old (Err r) s b out n e = (cc, cc, cc)
counted old (Ok _) s b out n e = (refl, cc, refl)

module _ (old : Bool) (s : Set) (rows cols : ℕ) (list out : List ℕ) (n : ℕ) (answered : (join_by old s rows cols list out).answer ≡ Ok n) where
  abbrev after : List ℕ
  after = (join_by old s rows cols list out).buffer

  -- the i-th sized record
  abbrev sized_there : ℕ → List ℕ
  sized_there i = take (sized_width_of old) (drop (i * sized_width_of old) after)

  parts : (first_of (join_checks old s rows cols list (length out)) ≡ Ok tt) × (n ≡ length list / width_of old) × (after ≡ laid_sized old s list out)
  unfolding join_by
  parts = counted old _ s list out n answered

  pub passed : Passed old s rows cols list (length out)
  passed = checks_passed old s rows cols list (length out) parts.0

  -- the count answered is the list's
  pub count-is : n ≡ length list / width_of old
  count-is = parts.1

  inside : (i : ℕ) → i < n → i < length list / width_of old
  inside i h = subst (λ (m : ℕ). i < m) count-is h

  -- the i-th sized record is a function of the i-th record and the set alone
  pub sized_at : (i : ℕ) → i < n → sized_there i ≡ sized_in old s (record_in old list i)
  sized_at i h = ap (λ (b : List ℕ). take (sized_width_of old) (drop (i * sized_width_of old) b)) parts.2 ∙ laid_sized_at old s list out i (inside i h)

  -- it has accepted 1 exactly where it has cause 0, in the ninth and the tenth byte past the record
  pub accepted_or_cause : (i : ℕ) → i < n → (get_or (sized_there i) (width_of old + 9) 0 ≡ 0 → get_or (sized_there i) (width_of old + 8) 0 ≡ 1)
      × (get_or (sized_there i) (width_of old + 8) 0 ≡ 1 → get_or (sized_there i) (width_of old + 9) 0 ≡ 0)
  accepted_or_cause i h = rw (sized_at i h) (accepted_or_none old s (record_in old list i))

  -- the spot's own bytes stand in its sized record unchanged
  pub record-kept : (i : ℕ) → i < n → all_under 256 list ≡ true → take (width_of old) (drop (i * sized_width_of old) after) ≡ take (width_of old) (drop (i * width_of old) list)
  record-kept i h under =
      let bytes : (k : ℕ) → get_or list k 0 < 256 = λ k. ltb-true _ _ (every_or_default (λ x. ltb x 256) list 0 k under refl) in
      sym (take-take (width_of old) (sized_width_of old) (drop (i * sized_width_of old) after) (narrower old))
      ∙ ap (take (width_of old)) (sized_at i h)
      ∙ own_first old s rows cols i list bytes passed.long (inside i h) (passed.fair i (inside i h))

module _ (old : Bool) (s : Set) (rows cols rows' cols' : ℕ) (list list' out out' : List ℕ) (n n' i j : ℕ)
    (answered : (join_by old s rows cols list out).answer ≡ Ok n) (answered' : (join_by old s rows' cols' list' out').answer ≡ Ok n') (inside-n : i < n) (inside-n' : j < n') where
  -- two calls with the same set give equal records the same size and home, on whatever maps, at whatever place and among whatever others
  pub same-record-same-size : record_in old list i ≡ record_in old list' j
      → take (sized_width_of old) (drop (i * sized_width_of old) (join_by old s rows cols list out).buffer) ≡ take (sized_width_of old) (drop (j * sized_width_of old) (join_by old s rows' cols' list' out').buffer)
  same-record-same-size e = sized_at old s rows cols list out n answered i inside-n ∙ ap (sized_in old s) e ∙ sym (sized_at old s rows' cols' list' out' n' answered' j inside-n')

  -- and the same of equal bytes
  pub same-bytes-same-size : take (width_of old) (drop (i * width_of old) list) ≡ take (width_of old) (drop (j * width_of old) list')
      → take (sized_width_of old) (drop (i * sized_width_of old) (join_by old s rows cols list out).buffer) ≡ take (sized_width_of old) (drop (j * sized_width_of old) (join_by old s rows' cols' list' out').buffer)
  same-bytes-same-size e = same-record-same-size (same_read old list list' i j e)
