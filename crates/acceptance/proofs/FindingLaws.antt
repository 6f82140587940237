-- What is found means what it says (`finding_means`), and is the only answer that does (`finding_only`): for any records due that can be written, and any bytes of whole records. Assumes nothing.
use Prim.Native.Nat.{ℕ, zero, suc, ◌+◌, ◌*◌, ◌≤◌, ◌<◌}
use native.Mathlib.Omega.{arith}
use mathlib.Core.Bool.{Bool, true, false}
use mathlib.Core.List.{List, [], ◌∷◌, ◌++◌, append_assoc, append-nil}
use mathlib.Core.Logic.{◌⊎◌, ◌↔◌, inl, inr}
use mathlib.Core.Path.{◌≡◌, refl, sym, ap, ◌∙◌, subst}
use lib.Dec.{ltb}
use lib.ListN.{length, get_or, take, drop, length-append, length-take}
use lib.Seq.{take_all, take-add, take_at, take-suc, take-length, take-nil, take-append-add, drop_at, drop-cons, drop-length}
use borrow.Author.Tests.{ltb-true, ltb-false, lt-ltb, le-ltb}
use Rattle.record.specs.declared.Record.{Record}
use Rattle.alike.specs.Same.{same}
use Rattle.alike.proofs.SameLaws.{same_equal, same-own, not_same}
use Rattle.record.specs.Layout.{spot_width, record_bytes, record_at, bytes_of}
use Rattle.record.proofs.LayoutLaws.{length-record_bytes, length-bytes_of}
use Rattle.record.proofs.RoundTrip.{bytes_of-append, record_from-record_bytes}
use Rattle.record.proofs.Converse.{same-bytes-same-record}
use Rattle.demands.specs.List.{StandsAt}
use Rattle.demands.proofs.Places.{stands-there}
use Rattle.follow.specs.Follow.{count_of, own_bytes, earlier, Earlier, meet_of, step_of, walk_of, end_of, finding_of}
use Rattle.acceptance.specs.Meaning.{Agree, DueAt, Means, Differs, extra, absent, different, AllHeld}
use Rattle.follow.specs.declared.Finding.{Finding}
use Rattle.follow.specs.declared.Finding.TheVariants.{Yes, Extra, Absent, Different}
use Rattle.follow.proofs.OrderLaws.{earlier_says, says_earlier, same-not-earlier, one_way, neither_earlier, not_self}
use Rattle.follow.proofs.WalkLaws.{walk_ended, walk_none, walk-next, meet_end, meet_extra, meet_absent, meet_same, meet_different}
use Rattle.std.specs.declared.ops.ControlFlow.{ControlFlow}
use Rattle.std.specs.declared.ops.ControlFlow.TheVariants.{Continue, Break}

-- ---- lists

stands_here : (front rest : List Record) (d : Record) → StandsAt (front ++ d ∷ rest) (length front) d
unfolding StandsAt
stands_here [] rest d = refl
stands_here (r ∷ front) rest d = stands_here front rest d

stands-drop : (ds : List Record) (i : ℕ) (d : Record) → StandsAt ds i d → drop i ds ≡ d ∷ drop (suc i) ds
unfolding StandsAt
stands-drop [] i d h = absurd h
stands-drop (t ∷ ts) zero d h = rw h
stands-drop (t ∷ ts) (suc i) d h = stands-drop ts i d h

stands-is : (ds : List Record) (i : ℕ) (d e : Record) → StandsAt ds i d → get_or ds i e ≡ d
unfolding StandsAt
stands-is [] i d e h = absurd h
stands-is (t ∷ ts) zero d e h = h
stands-is (t ∷ ts) (suc i) d e h = stands-is ts i d e h

take-bytes : (ds : List Record) (k : ℕ) → take (k * spot_width) (bytes_of ds) ≡ bytes_of (take k ds)
unfolding bytes_of
take-bytes ds zero = refl
take-bytes [] (suc k) = take-nil (suc k * spot_width)
take-bytes (d ∷ ds) (suc k) =
    let place : suc k * spot_width ≡ length (record_bytes d) + k * spot_width = omega (arith, length-record_bytes d) in
    ap (λ (n : ℕ). take n (record_bytes d ++ bytes_of ds)) place ∙ take-append-add (record_bytes d) (bytes_of ds) (k * spot_width) ∙ ap (λ (l : List ℕ). record_bytes d ++ l) (take-bytes ds k)

bytes_snoc : (ds : List Record) (d : Record) → bytes_of (ds ++ d ∷ []) ≡ bytes_of ds ++ record_bytes d
unfolding bytes_of
bytes_snoc ds d = bytes_of-append ds (d ∷ []) ∙ ap (λ (l : List ℕ). bytes_of ds ++ l) (append-nil (record_bytes d))

snoc_length : (ds : List Record) (d : Record) → length (ds ++ d ∷ []) ≡ suc (length ds)
snoc_length ds d = omega (arith, length-append ds (d ∷ []))

-- ---- what is found means what it says

module _ (b : List ℕ) (whole : length b ≡ count_of b * spot_width) where
  agree-front : (front rest : List Record) (i : ℕ) → length front ≡ i → i ≤ count_of b → take (i * spot_width) b ≡ bytes_of front → Agree (front ++ rest) b i
  agree-front front rest i l h e = record { in_due = omega (arith, length-append front rest); in_given = h; bytes = rw (take_at front rest i l) e }

  due-next : (front rest : List Record) (d : Record) (i : ℕ) → length front ≡ i → (P : Record → Type 0) → P d → DueAt (front ++ d ∷ rest) i P
  due-next front rest d i l P p = record { due = d; there = subst (λ (k : ℕ). StandsAt (front ++ d ∷ rest) k d) l (stands_here front rest d); holds = p }

  more_agrees : (front : List Record) (d : Record) (i : ℕ) → take (i * spot_width) b ≡ bytes_of front → record_bytes d ≡ own_bytes b i → take (suc i * spot_width) b ≡ bytes_of (front ++ d ∷ [])
  more_agrees front d i e f = let sum : suc i * spot_width ≡ i * spot_width + spot_width = omega arith in rw (sum, take-add (i * spot_width) spot_width b, e, ← f) (sym (bytes_snoc front d))

  all-agree : (front : List Record) (i : ℕ) → take (i * spot_width) b ≡ bytes_of front → count_of b ≤ i → b ≡ bytes_of (front ++ [])
  all-agree front i e h = sym (take_all (i * spot_width) b (omega arith)) ∙ e ∙ ap bytes_of (sym (append-nil front))

  -- the walk from the record i on
  along : (rest front : List Record) (i : ℕ) → length front ≡ i → i ≤ count_of b → take (i * spot_width) b ≡ bytes_of front → Means (front ++ rest) b (end_of b (walk_of b (Continue i) rest))
  unfolding walk_of step_of end_of Means
  along [] front i l h e = go (ltb i (count_of b)) refl
    where
      go : (x : Bool) → ltb i (count_of b) ≡ x → Means (front ++ []) b (end_of b (Continue i))
      go true p = rw p (record { agree = agree-front front [] i l h e; given = ltb-true _ _ p; reason = inl (omega (arith, length-append front [])) })
      go false p = rw p (all-agree front i e (ltb-false _ _ p))
  along (d ∷ rest) front i l h e = go (ltb i (count_of b)) refl (earlier (record_at b i) d) refl (earlier d (record_at b i)) refl (same (record_bytes d) (own_bytes b i)) refl
      (λ more same. subst (λ (ds : List Record). Means ds b (end_of b (walk_of b (Continue (suc i)) rest))) (append_assoc front (d ∷ []) rest) (along rest (front ++ d ∷ []) (suc i) (snoc_length front d ∙ ap suc l) more (more_agrees front d i e same)))
    where
      all : List Record
      all = front ++ d ∷ rest

      ag : Agree (front ++ d ∷ rest) b i
      ag = agree-front front (d ∷ rest) i l h e

      ends : (a : Finding) → meet_of b i d ≡ Break a → Means (front ++ d ∷ rest) b a → Means (front ++ d ∷ rest) b (end_of b (walk_of b (meet_of b i d) rest))
      ends a p q = rw (p, walk_ended b a rest) q

      go : (x : Bool) → ltb i (count_of b) ≡ x → (y : Bool) → earlier (record_at b i) d ≡ y → (z : Bool) → earlier d (record_at b i) ≡ z → (u : Bool) → same (record_bytes d) (own_bytes b i) ≡ u
          → (suc i ≤ count_of b → record_bytes d ≡ own_bytes b i → Means (front ++ d ∷ rest) b (end_of b (walk_of b (Continue (suc i)) rest)))
          → Means (front ++ d ∷ rest) b (end_of b (walk_of b (meet_of b i d) rest))
      go false p y q z r u s next =
          ends (Absent i) (meet_end b i d (ltb-false _ _ p))
          (record { agree = ag; reason = inl (omega (arith, length-append front (d ∷ rest)), omega (arith, ltb-false i (count_of b) p)) })
      go true p true q z r u s next =
          ends (Extra i) (meet_extra b i d (ltb-true _ _ p) q)
          (record { agree = ag; given = ltb-true _ _ p; reason = inr (due-next front rest d i l (λ t. Earlier (record_at b i) t) (earlier_says (record_at b i) d q)) })
      go true p false q true r u s next =
          ends (Absent i) (meet_absent b i d (ltb-true _ _ p) q r)
          (record { agree = ag; reason = inr (ltb-true _ _ p, due-next front rest d i l (λ t. Earlier t (record_at b i)) (earlier_says d (record_at b i) r)) })
      go true p false q false r true s next = rw (meet_same b i d (ltb-true _ _ p) q r s) (next (ltb-true _ _ p) (same_equal (record_bytes d) (own_bytes b i) s))
      go true p false q false r false s next =
          let n = neither_earlier (record_at b i) d q r in
          ends (Different i) (meet_different b i d (ltb-true _ _ p) q r s)
          (record {
            agree = ag;
            given = ltb-true _ _ p;
            same_place = due-next front rest d i l (λ t. ((record_at b i).key ≡ t.key) × ((record_at b i).polarity ≡ t.polarity) × (own_bytes b i ≡ record_bytes t → ⊥)) (n.0, n.1, λ e. not_same (record_bytes d) (own_bytes b i) s (sym e));
          })

  pub finding_means : (ds : List Record) → Means ds b (finding_of ds b)
  unfolding finding_of bytes_of
  finding_means ds = along ds [] 0 refl (omega arith) refl

-- ---- and is the only one that does

module _ (ds : List Record) (held : AllHeld ds) (b : List ℕ) (whole : length b ≡ count_of b * spot_width) where
  -- bytes that are a due record's are read as it
  read_as : (i : ℕ) (d : Record) → StandsAt ds i d → own_bytes b i ≡ record_bytes d → record_at b i ≡ d
  read_as i d at e =
      same-bytes-same-record b (record_bytes d ++ []) (i * spot_width) 0 (e ∙ sym (take_at (record_bytes d) [] spot_width (length-record_bytes d)))
      ∙ record_from-record_bytes [] [] d (held i d at)

  module _ (i : ℕ) (a : Agree ds b (suc i)) where
    abbrev here : Record
    here = get_or ds i (record_at b 0)

    at_here : StandsAt ds i here
    at_here = stands-there ds i (record_at b 0) (let l = a.in_due in omega arith)

    sum : suc i * spot_width ≡ i * spot_width + spot_width
    sum = omega arith

    less : i < length ds
    less = let l = a.in_due in omega arith

    split : take (i * spot_width) b ++ own_bytes b i ≡ bytes_of (take i ds) ++ record_bytes here
    split = sym (take-add (i * spot_width) spot_width b) ∙ ap (λ (n : ℕ). take n b) (sym sum) ∙ a.bytes ∙ ap bytes_of (take-suc ds i (record_at b 0) less) ∙ bytes_snoc (take i ds) here

    front_long : length (take (i * spot_width) b) ≡ i * spot_width
    front_long = let l = a.in_given in omega (arith, length-take (i * spot_width) b)

    due-long : length (bytes_of (take i ds)) ≡ i * spot_width
    due-long = omega (arith, length-bytes_of (take i ds), length-take i ds, less)

    before : Agree ds b i
    before = record {
      in_due = omega (arith, a.in_due);
      in_given = omega (arith, a.in_given);
      bytes = sym (take_at (take (i * spot_width) b) (own_bytes b i) (i * spot_width) front_long) ∙ ap (take (i * spot_width)) split ∙ take_at (bytes_of (take i ds)) (record_bytes here) (i * spot_width) due-long;
    }

    own_is : own_bytes b i ≡ record_bytes here
    own_is = sym (drop_at (take (i * spot_width) b) (own_bytes b i) (i * spot_width) front_long) ∙ ap (drop (i * spot_width)) split ∙ drop_at (bytes_of (take i ds)) (record_bytes here) (i * spot_width) due-long

    pub read_there : record_at b i ≡ here
    read_there = read_as i here at_here own_is

    met : meet_of b i here ≡ Continue (suc i)
    met =
        let r = read_there in
        let key : (record_at b i).key ≡ here.key = ap (λ (t : Record). t.key) r in
        let polarity : (record_at b i).polarity ≡ here.polarity = ap (λ (t : Record). t.polarity) r in
        meet_same b i here (omega (arith, a.in_given)) (same-not-earlier (record_at b i) here key polarity) (same-not-earlier here (record_at b i) (sym key) (sym polarity)) (rw own_is (same-own (record_bytes here)))

    goes_on : walk_of b (Continue i) (drop i ds) ≡ walk_of b (Continue (suc i)) (drop (suc i) ds)
    goes_on = ap (walk_of b (Continue i)) (drop-cons ds i (record_at b 0) less) ∙ walk-next b i here (drop (suc i) ds) ∙ ap (λ (w : ControlFlow Finding ℕ). walk_of b w (drop (suc i) ds)) met

  -- over records that agree the walk goes on
  to : (i : ℕ) → Agree ds b i → walk_of b (Continue 0) ds ≡ walk_of b (Continue i) (drop i ds)
  to zero a = refl
  to (suc i) a = to i (before i a) ∙ goes_on i a

  stops : (i : ℕ) (d : Record) (a : Finding) → Agree ds b i → StandsAt ds i d → meet_of b i d ≡ Break a → finding_of ds b ≡ a
  unfolding finding_of end_of
  stops i d a g at e = ap (end_of b) (to i g ∙ ap (walk_of b (Continue i)) (stands-drop ds i d at) ∙ walk-next b i d (drop (suc i) ds) ∙ ap (λ (w : ControlFlow Finding ℕ). walk_of b w (drop (suc i) ds)) e ∙ walk_ended b a (drop (suc i) ds))

  past : (i : ℕ) → Agree ds b i → i ≡ length ds → finding_of ds b ≡ end_of b (Continue i)
  unfolding finding_of
  past i g e = ap (end_of b) (to i g ∙ ap (walk_of b (Continue i)) (ap (λ (k : ℕ). drop k ds) e ∙ drop-length ds) ∙ walk_none b (Continue i))

  pub finding_only : (a : Finding) → Means ds b a → finding_of ds b ≡ a
  unfolding Means end_of
  finding_only Yes e =
      let long : length b ≡ length ds * spot_width = ap length e ∙ length-bytes_of ds in
      let count : count_of b ≡ length ds = omega arith in
      let all : Agree ds b (length ds) = record { in_due = omega arith; in_given = omega arith; bytes = take_all (length ds * spot_width) b (omega arith) ∙ e ∙ ap bytes_of (sym (take-length ds)) } in
      past (length ds) all refl ∙ rw (le-ltb (length ds) (count_of b) (omega arith))
  finding_only (Extra i) h = go h.reason
    where
      go : (i ≡ length ds) ⊎ DueAt ds i (λ d. Earlier (record_at b i) d) → finding_of ds b ≡ Extra i
      go (inl e) = past i h.agree e ∙ rw (lt-ltb i (count_of b) h.given)
      go (inr d) = stops i d.due (Extra i) h.agree d.there (meet_extra b i d.due h.given (says_earlier (record_at b i) d.due d.holds))
  finding_only (Absent i) h = go h.reason
    where
      go : ((i < length ds) × (i ≡ count_of b)) ⊎ ((i < count_of b) × DueAt ds i (λ d. Earlier d (record_at b i))) → finding_of ds b ≡ Absent i
      go (inl e) = stops i (get_or ds i (record_at b 0)) (Absent i) h.agree (stands-there ds i (record_at b 0) e.0) (meet_end b i (get_or ds i (record_at b 0)) (omega (arith, e.1)))
      go (inr e) =
          let d = e.1 in
          stops i d.due (Absent i) h.agree d.there
          (meet_absent b i d.due e.0 (one_way d.due (record_at b i) d.holds) (says_earlier d.due (record_at b i) d.holds))
  finding_only (Different i) h =
      let d = h.same_place in
      let key = d.holds.0 in
      let polarity = d.holds.1 in
      stops i d.due (Different i) h.agree d.there
      (meet_different b i d.due h.given (same-not-earlier (record_at b i) d.due key polarity) (same-not-earlier d.due (record_at b i) (sym key) (sym polarity)) (differ (same (record_bytes d.due) (own_bytes b i)) refl))
    where
      differ : (x : Bool) → same (record_bytes h.same_place.due) (own_bytes b i) ≡ x → same (record_bytes h.same_place.due) (own_bytes b i) ≡ false
      differ true e = absurd (h.same_place.holds.2 (sym (same_equal (record_bytes h.same_place.due) (own_bytes b i) e)))
      differ false e = e

  -- yes is answered exactly when the bytes are those of the records due
  pub yes_exactly : (finding_of ds b ≡ Yes) ↔ (b ≡ bytes_of ds)
  unfolding Means
  yes_exactly = ((λ e. subst (Means ds b) e (finding_means b whole ds)), finding_only Yes)

  -- the bytes of the records due agree with them all the way
  pub due_agrees : b ≡ bytes_of ds → (k : ℕ) → k ≤ length ds → Agree ds b k
  due_agrees e k h =
      let long : length b ≡ length ds * spot_width = ap length e ∙ length-bytes_of ds in
      record { in_due = h; in_given = omega arith; bytes = ap (take (k * spot_width)) e ∙ take-bytes ds k }

  -- ---- the index is that of the first record that differs

  as_due : (i : ℕ) → Agree ds b (suc i) → (d : Record) → StandsAt ds i d → record_at b i ≡ d
  as_due i g d at = read_there i g ∙ stands-is ds i d (record_at b 0) at

  own-due : (i : ℕ) → Agree ds b (suc i) → (d : Record) → StandsAt ds i d → own_bytes b i ≡ record_bytes d
  own-due i g d at = own_is i g ∙ ap record_bytes (stands-is ds i d (record_at b 0) at)

  before_it : (i : ℕ) (a : Finding) → Differs i a → Means ds b a → Agree ds b i
  unfolding Means
  before_it i a extra h = h.agree
  before_it i a absent h = h.agree
  before_it i a different h = h.agree

  not_further : (i : ℕ) (a : Finding) → Differs i a → Means ds b a → Agree ds b (suc i) → ⊥
  unfolding Means
  not_further i a extra h g = go h.reason
    where
      go : (i ≡ length ds) ⊎ DueAt ds i (λ d. Earlier (record_at b i) d) → ⊥
      go (inl e) = omega (arith, g.in_due)
      go (inr d) = not_self (record_at b i) d.due (as_due i g d.due d.there) d.holds
  not_further i a absent h g = go h.reason
    where
      go : ((i < length ds) × (i ≡ count_of b)) ⊎ ((i < count_of b) × DueAt ds i (λ d. Earlier d (record_at b i))) → ⊥
      go (inl e) = omega (arith, g.in_given, e.1)
      go (inr e) = let d = e.1 in not_self d.due (record_at b i) (sym (as_due i g d.due d.there)) d.holds
  not_further i a different h g = let d = h.same_place in d.holds.2 (own-due i g d.due d.there)

  -- the records before it are there and those due, and with it they are not
  pub first_differing : (i : ℕ) (a : Finding) → Differs i a → finding_of ds b ≡ a → Agree ds b i × (Agree ds b (suc i) → ⊥)
  first_differing i a f e = let h = subst (Means ds b) e (finding_means b whole ds) in (before_it i a f h, not_further i a f h)
