-- What the join's promise settles: the first of its checks that holds, and what becomes of the buffer's bytes.
use Rattle.std.specs.Prelude.{Result, Ok, Err, ⊤}
use Prim.Native.Nat.{ℕ, ◌+◌, ◌-◌, ◌*◌, ◌/◌, ◌%◌, ◌≤◌, ◌<◌}
use native.Mathlib.Omega.{arith}
use mathlib.Core.Bool.{Bool, true, false, not, false≢true}
use mathlib.Core.List.{List, [], ◌∷◌}
use mathlib.Core.Logic.{◌⊎◌, inl, inr}
use mathlib.Core.Path.{◌≡◌, refl, sym, ap, ◌∙◌}
use lib.ListN.{length, get_or, drop}
use lib.Seq.{length-sets, drop_at, get_or-drop}
use lib.Dec.{ltb, eqb}
use borrow.Author.Tests.{ltb-true, ltb-false, lt-ltb, eqb-true, eqb-false, eq-eqb, ne_eqb}
use Rattle.tables.specs.Refusal.{Check, ◌when◌, unless, first_of, said_at, First}
use Rattle.tables.specs.declared.Set.{Set}
use Rattle.tables.specs.declared.Refusal.{Refusal}
use Rattle.tables.specs.declared.Refusal.TheVariants.{Size, BadSet, Records, Room}
use Rattle.join.specs.Forms.{width_of, sized_width_of}
use Rattle.join.specs.Join.{bad_of, records_of, sized_all, laid_sized, records_checks, join_checks, Outcome, joined, join_by}
use Rattle.join.specs.Claims.{WrongLength, FirstBad, Fault}
use Rattle.join.proofs.CheckLaws.{fair_before, bad_unfair, checks_passed}
use Rattle.join.proofs.SizedLaws.{length-all, stored-laid}
use Rattle.tables.proofs.RefusalLaws as order

-- ---- over the outcome of the checks

answer-refused : (old : Bool) (w : Result ⊤ Refusal) (s : Set) (b out : List ℕ) (r : Refusal) → (joined old w s b out).answer ≡ Err r → w ≡ Err r
unfolding joined
answer-refused old (Err q) s b out r e = cc
answer-refused old (Ok _) s b out r e = cc

answer_counted : (old : Bool) (w : Result ⊤ Refusal) (s : Set) (b out : List ℕ) (n : ℕ) → (joined old w s b out).answer ≡ Ok n → w ≡ Ok tt
unfolding joined
answer_counted old (Err q) s b out n e = cc
answer_counted old (Ok _) s b out n e = refl

buffer-kept : (old : Bool) (w : Result ⊤ Refusal) (s : Set) (b out : List ℕ) (r : Refusal) → (joined old w s b out).answer ≡ Err r → (joined old w s b out).buffer ≡ out
unfolding joined
buffer-kept old (Err q) s b out r e = refl
buffer-kept old (Ok _) s b out r e = cc

joined_length : (old : Bool) (w : Result ⊤ Refusal) (s : Set) (b out : List ℕ) → (w ≡ Ok tt → length b / width_of old * sized_width_of old ≤ length out) → length (joined old w s b out).buffer ≡ length out
unfolding joined
joined_length old (Err r) s b out room = refl
joined_length old (Ok _) s b out room = ap length (sym (stored-laid old s b out (room refl))) ∙ length-sets out 0 (sized_all old s (records_of old b))

laid-rest : (old : Bool) (s : Set) (b out : List ℕ) → drop (length b / width_of old * sized_width_of old) (laid_sized old s b out) ≡ drop (length b / width_of old * sized_width_of old) out
unfolding laid_sized
laid-rest old s b out = drop_at (sized_all old s (records_of old b)) _ (length b / width_of old * sized_width_of old) (length-all old s b) ∙ ap (λ (k : ℕ). drop k out) (length-all old s b)

laid_keeps : (old : Bool) (s : Set) (b out : List ℕ) (i : ℕ) → length b / width_of old * sized_width_of old ≤ i → get_or (laid_sized old s b out) i 0 ≡ get_or out i 0
laid_keeps old s b out i h =
    let k : ℕ = length b / width_of old * sized_width_of old in
    let e : k + (i - k) ≡ i = omega arith in
    rw (← e, ← get_or-drop k (laid_sized old s b out) (i - k) 0, laid-rest old s b out, get_or-drop k out (i - k) 0)

joined_keeps : (old : Bool) (w : Result ⊤ Refusal) (s : Set) (b out : List ℕ) (i : ℕ) → length b / width_of old * sized_width_of old ≤ i → get_or (joined old w s b out).buffer i 0 ≡ get_or out i 0
unfolding joined
joined_keeps old (Err r) s b out i h = refl
joined_keeps old (Ok _) s b out i h = laid_keeps old s b out i h

-- ---- the list's checks

not_records : ◌≡◌ {A = ℕ} 0 1 → ⊥
not_records e = omega (arith, e)

-- of checks in the join's order, what is refused with 5 is the length, or a record where the length is right
list_refused : (sides set whole bad room : Bool) (count first i : ℕ)
    → first_of ((Size when sides) ∷ (BadSet when set) ∷ (Records count when not whole) ∷ (Records first when bad) ∷ (Room when room) ∷ []) ≡ Err (Records i)
    → ((whole ≡ false) × (i ≡ count)) ⊎ ((whole ≡ true) × (bad ≡ true) × (i ≡ first))
unfolding first_of unless
list_refused true set whole bad room count first i h = absurd (not_records cc)
list_refused false true whole bad room count first i h = absurd (not_records cc)
list_refused false false false bad room count first i h = inl (refl, cc)
list_refused false false true true room count first i h = inr (refl, refl, cc)
list_refused false false true false true count first i h = absurd (not_records cc)
list_refused false false true false false count first i h = absurd (not_records cc)

-- what the tests of a list's records tell, in words
tests_say : (old : Bool) (rows cols : ℕ) (list : List ℕ) (i : ℕ)
    → ((eqb (length list % width_of old) 0 ≡ false) × (i ≡ length list / width_of old)) ⊎ ((eqb (length list % width_of old) 0 ≡ true) × (ltb (bad_of old rows cols list) (length list / width_of old) ≡ true) × (i ≡ bad_of old rows cols list))
    → WrongLength old list i ⊎ FirstBad old rows cols list i
tests_say old rows cols list i (inl h) = inl (record { broken = eqb-false _ _ h.0; count = h.1 })
tests_say old rows cols list i (inr h) =
    let same : i ≡ bad_of old rows cols list = h.2 in
    let inside : bad_of old rows cols list < length list / width_of old = ltb-true _ _ h.1 in
    inr (record {
      whole = eqb-true _ _ h.0;
      inside = rw same inside;
      bad = rw same (bad_unfair old rows cols list (length list / width_of old) 0 (omega arith));
      earlier = λ k less. fair_before old rows cols list (length list / width_of old) 0 k (omega arith) (omega arith);
    })

-- what the checks of a list's records refuse is 5, with the index of the fault
pub records_fault : (old : Bool) (rows cols : ℕ) (list : List ℕ) (r : Refusal) → first_of (records_checks old rows cols list) ≡ Err r → Fault old rows cols list r
unfolding first_of unless
records_fault old rows cols list r h = go (eqb (length list % width_of old) 0) refl (ltb (bad_of old rows cols list) (length list / width_of old)) refl h
  where
    go : (whole : Bool) → eqb (length list % width_of old) 0 ≡ whole → (bad : Bool) → ltb (bad_of old rows cols list) (length list / width_of old) ≡ bad
        → unless (not whole) (Records (length list / width_of old)) (unless bad (Records (bad_of old rows cols list)) (Ok tt)) ≡ Err r → Fault old rows cols list r
    go false w bad q e = record { index = length list / width_of old; refusal = cc; reason = tests_say old rows cols list (length list / width_of old) (inl (w, refl)) }
    go true w true q e = record { index = bad_of old rows cols list; refusal = cc; reason = tests_say old rows cols list (bad_of old rows cols list) (inr (w, q, refl)) }
    go true w false q e = let never : ◌≡◌ {A = ℕ} 0 1 = cc in absurd (not_records never)

-- the first bad record is the one that the search finds
bad-is : (old : Bool) (rows cols : ℕ) (list : List ℕ) (i : ℕ) → FirstBad old rows cols list i → bad_of old rows cols list ≡ i
bad-is old rows cols list i f = go (ltb i (bad_of old rows cols list)) refl (ltb (bad_of old rows cols list) i) refl
  where
    go : (more : Bool) → ltb i (bad_of old rows cols list) ≡ more → (less : Bool) → ltb (bad_of old rows cols list) i ≡ less → bad_of old rows cols list ≡ i
    go true p less q = absurd (false≢true (sym f.bad ∙ fair_before old rows cols list (length list / width_of old) 0 i (omega arith) (ltb-true _ _ p)))
    go false p true q =
        let below = ltb-true _ _ q in
        absurd (false≢true (sym (bad_unfair old rows cols list (length list / width_of old) 0 (let l = f.inside in omega arith)) ∙ f.earlier (bad_of old rows cols list) below))
    go false p false q = omega (arith, ltb-false i (bad_of old rows cols list) p, ltb-false (bad_of old rows cols list) i q)

-- and a list with such a fault is refused with it
pub fault_refused : (old : Bool) (rows cols : ℕ) (list : List ℕ) (i : ℕ) → WrongLength old list i ⊎ FirstBad old rows cols list i → first_of (records_checks old rows cols list) ≡ Err (Records i)
unfolding first_of unless
fault_refused old rows cols list i (inl f) = rw (ne_eqb (length list % width_of old) 0 f.broken, f.count)
fault_refused old rows cols list i (inr f) =
    let found = bad-is old rows cols list i f in
    rw (eq-eqb (length list % width_of old) 0 f.whole, found, lt-ltb i (length list / width_of old) f.inside)

-- ---- a call

module _ (old : Bool) (s : Set) (rows cols : ℕ) (list out : List ℕ) where
  abbrev after : Outcome
  after = join_by old s rows cols list out

  abbrev checks : List Check
  checks = join_checks old s rows cols list (length out)

  -- a refusal writes nothing
  pub refused_keeps : (r : Refusal) → after.answer ≡ Err r → after.buffer ≡ out
  unfolding join_by
  refused_keeps r e = buffer-kept old _ s list out r e

  -- the buffer keeps its length
  pub length-kept : length after.buffer ≡ length out
  unfolding join_by
  length-kept = joined_length old _ s list out (λ fine. (checks_passed old s rows cols list (length out) fine).room-enough)

  -- bytes past the sized records are kept
  pub later_kept : (i : ℕ) → length list / width_of old * sized_width_of old ≤ i → get_or after.buffer i 0 ≡ get_or out i 0
  unfolding join_by
  later_kept i h = joined_keeps old _ s list out i h

  -- ---- its refusals

  refused : (r : Refusal) → after.answer ≡ Err r → first_of checks ≡ Err r
  unfolding join_by
  refused r e = answer-refused old _ s list out r e

  -- a refusal that is answered is the first that holds, in the order of the checks: 1, 4, 5 for the length, 5 for a record, 6
  pub refused-first : (r : Refusal) → after.answer ≡ Err r → First checks r
  refused-first r e = order.first-refused checks r (refused r e)

  -- and the first that holds is answered
  pub first_answered : (r : Refusal) → First checks r → after.answer ≡ Err r
  unfolding join_by joined
  first_answered r f = rw (order.refused-first checks r f)

  -- a call that answers a count has no check that holds
  pub counted_none : (n : ℕ) → after.answer ≡ Ok n → (k : ℕ) → said_at checks k ≡ Ok tt
  unfolding join_by
  counted_none n e = order.first_fine checks (answer_counted old _ s list out n e)

  -- and a call with no check that holds answers the record count
  pub none_counted : ((k : ℕ) → said_at checks k ≡ Ok tt) → after.answer ≡ Ok (length list / width_of old)
  unfolding join_by joined
  none_counted h = rw (order.fine-first checks h)

  -- the index of refusal 5: the whole record count where the length is at fault, which is looked at first, else that of the first bad record
  pub bad-index : (i : ℕ) → after.answer ≡ Err (Records i) → WrongLength old list i ⊎ FirstBad old rows cols list i
  unfolding join_checks
  bad-index i e =
      tests_say old rows cols list i
      (list_refused _ _ (eqb (length list % width_of old) 0) (ltb (bad_of old rows cols list) (length list / width_of old)) _ (length list / width_of old) (bad_of old rows cols list) i (refused (Records i) e))
