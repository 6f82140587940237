-- What edited lists come to: one record left out, put in twice or moved, or one byte changed; for any records due that can be written and rise. Assumes nothing.
use Prim.Native.Nat.{ℕ, suc, ◌+◌, ◌*◌, ◌≤◌, ◌<◌}
use native.Mathlib.Omega.{arith}
use native.Mathlib.Nat.{add-zero, eq-or-lt_of_le}
use mathlib.Core.List.{List, [], ◌∷◌, ◌++◌, append-nil}
use mathlib.Core.Logic.{◌⊎◌, inl, inr}
use mathlib.Core.Path.{◌≡◌, refl, sym, ap, ◌∙◌, subst}
use lib.ListN.{length, get_or, take, set, length-append, length-set}
use lib.Seq.{take_at, take_all, drop_at, get_or-set_same, get_or-set_other}
use Rattle.words.specs.Words.{word_from}
use Rattle.record.specs.declared.Record.{Record}
use Rattle.record.specs.Layout.{spot_width, record_bytes, record_with, record_from, record_at, bytes_of, Held}
use Rattle.record.proofs.LayoutLaws.{length-record_bytes, length-bytes_of}
use Rattle.record.proofs.RoundTrip.{bytes_of-append, record_from-append, record_from-record_bytes}
use Rattle.record.proofs.Converse.{same-bytes-same-record}
use Rattle.demands.specs.List.{StandsAt, Before, Rising}
use Rattle.demands.proofs.Places.{at_short, at_left, at_right}
use Rattle.follow.specs.Follow.{count_of, own_bytes, Earlier, finding_of}
use Rattle.follow.specs.declared.Finding.TheVariants.{Extra, Absent, Different}
use Rattle.acceptance.specs.Meaning.{Agree, AllHeld, Means}
use Rattle.acceptance.specs.Claims.{changed, Ordering}
use Rattle.acceptance.proofs.FindingLaws.{finding_only}

-- the order in which the due list rises is that of the findings
rises_earlier : (r t : Record) → Before r t → Earlier r t
rises_earlier r t (inl h) = inl h
rises_earlier r t (inr h) = inr (h.0, (let p = h.1 in let q = h.2 in omega arith))

-- ---- two lists that agree up to the records of front

module _ (front rest : List Record) (held : AllHeld (front ++ rest)) (c : List ℕ) (k : ℕ) (long : length c ≡ k * spot_width) where
  abbrev n : ℕ
  n = length front

  abbrev given : List ℕ
  given = bytes_of front ++ c

  given-long : length given ≡ (n + k) * spot_width
  given-long = omega (arith, length-append (bytes_of front) c, length-bytes_of front)

  given-whole : length given ≡ count_of given * spot_width
  given-whole = let l = given-long in omega arith

  given-count : count_of given ≡ n + k
  given-count = let l = given-long in omega arith

  agrees : Agree (front ++ rest) given n
  agrees = record {
    in_due = omega (arith, length-append front rest);
    in_given = omega (arith, given-count);
    bytes = take_at (bytes_of front) c (n * spot_width) (length-bytes_of front) ∙ ap bytes_of (sym (take_at front rest n refl));
  }

  -- the list ends where one more is due
  pub short : 0 < length rest → k ≡ 0 → finding_of (front ++ rest) given ≡ Absent n
  unfolding Means
  short more none = finding_only (front ++ rest) held given given-whole (Absent n) (record { agree = agrees; reason = inl (omega (arith, length-append front rest), omega (arith, given-count)) })

  -- no more are due where one more is given
  pub past : length rest ≡ 0 → 0 < k → finding_of (front ++ rest) given ≡ Extra n
  unfolding Means
  past none more = finding_only (front ++ rest) held given given-whole (Extra n) (record { agree = agrees; given = omega (arith, given-count); reason = inl (omega (arith, length-append front rest)) })

  -- one is due and another given
  module _ (d : Record) (at : StandsAt rest 0 d) (more : 0 < k) where
    here : StandsAt (front ++ rest) n d
    here = subst (λ (i : ℕ). StandsAt (front ++ rest) i d) (let e : length front + 0 ≡ length front = omega arith in e) (at_right front rest 0 d at)

    pub before : Earlier (record_at given n) d → finding_of (front ++ rest) given ≡ Extra n
    unfolding Means
    before e = finding_only (front ++ rest) held given given-whole (Extra n) (record { agree = agrees; given = omega (arith, given-count); reason = inr (record { due = d; there = here; holds = e }) })

    pub behind : Earlier d (record_at given n) → finding_of (front ++ rest) given ≡ Absent n
    unfolding Means
    behind e = finding_only (front ++ rest) held given given-whole (Absent n) (record { agree = agrees; reason = inr (omega (arith, given-count), record { due = d; there = here; holds = e }) })

    pub other : (record_at given n).key ≡ d.key → (record_at given n).polarity ≡ d.polarity → (own_bytes given n ≡ record_bytes d → ⊥) → finding_of (front ++ rest) given ≡ Different n
    unfolding Means
    other key polarity unlike = finding_only (front ++ rest) held given given-whole (Different n) (record { agree = agrees; given = omega (arith, given-count); same_place = record { due = d; there = here; holds = (key, polarity, unlike) } })

-- ---- lists of records that can be written

-- a given record is read as it was written
reads : (front gs : List Record) (g : Record) → Held g → record_at (bytes_of front ++ bytes_of (g ∷ gs)) (length front) ≡ g
unfolding bytes_of
reads front gs g held = ap (record_from (bytes_of front ++ (record_bytes g ++ bytes_of gs))) (sym (length-bytes_of front)) ∙ record_from-record_bytes (bytes_of front) (bytes_of gs) g held

first-is : (d : Record) (rest : List Record) → StandsAt (d ∷ rest) 0 d
unfolding StandsAt
first-is d rest = refl

module _ (front : List Record) (d : Record) (back : List Record) (held : AllHeld (front ++ (d ∷ back))) (g : Record) (gs : List Record) (can : Held g) where
  one_more : 0 < length (g ∷ gs)
  one_more = omega arith

  -- one that comes after the due one stands in its place
  pub later_given : Earlier d g → finding_of (front ++ (d ∷ back)) (bytes_of (front ++ (g ∷ gs))) ≡ Absent (length front)
  later_given e =
      ap (finding_of (front ++ (d ∷ back))) (bytes_of-append front (g ∷ gs))
      ∙ behind front (d ∷ back) held (bytes_of (g ∷ gs)) (length (g ∷ gs)) (length-bytes_of (g ∷ gs)) d (first-is d back) one_more (subst (Earlier d) (sym (reads front gs g can)) e)

  -- one that comes before it does
  pub sooner_given : Earlier g d → finding_of (front ++ (d ∷ back)) (bytes_of (front ++ (g ∷ gs))) ≡ Extra (length front)
  sooner_given e =
      ap (finding_of (front ++ (d ∷ back))) (bytes_of-append front (g ∷ gs))
      ∙ before front (d ∷ back) held (bytes_of (g ∷ gs)) (length (g ∷ gs)) (length-bytes_of (g ∷ gs)) d (first-is d back) one_more (subst (λ (t : Record). Earlier t d) (sym (reads front gs g can)) e)

-- the records due rise
module _ (front back : List Record) (rising : Rising (front ++ back)) where
  -- one in front comes before the first behind
  over_seam : (i : ℕ) (r e : Record) → i < length front → StandsAt (front ++ back) i r → StandsAt back 0 e → Earlier r e
  over_seam i r e less a b = rises_earlier r e (rising i (length front + 0) r e (omega arith) a (at_right front back 0 e b))

  -- and the first behind before the others
  in_back : (i : ℕ) (e r : Record) → StandsAt back 0 e → StandsAt back (suc i) r → Earlier e r
  in_back i e r a b = rises_earlier e r (rising (length front + 0) (length front + suc i) e r (omega arith) (at_right front back 0 e a) (at_right front back (suc i) r b))

-- One record left out: it is absent, at its own index.
pub left_out : (front : List Record) (d : Record) (back : List Record) → AllHeld (front ++ (d ∷ back)) → Rising (front ++ (d ∷ back)) → finding_of (front ++ (d ∷ back)) (bytes_of (front ++ back)) ≡ Absent (length front)
unfolding StandsAt bytes_of
left_out front d [] held rising =
    ap (finding_of (front ++ (d ∷ []))) (bytes_of-append front []) ∙ short front (d ∷ []) held [] 0 refl (omega arith) refl
left_out front d (e ∷ back) held rising =
    later_given front d (e ∷ back) held e back (held (length front + 1) e (at_right front (d ∷ e ∷ back) 1 e refl)) (in_back front (d ∷ e ∷ back) rising 0 d e refl refl)

-- A record put in again behind itself: it is extra, where it was put.
pub again_behind : (front back : List Record) (i : ℕ) (d : Record) → StandsAt front i d → AllHeld (front ++ back) → Rising (front ++ back) → finding_of (front ++ back) (bytes_of (front ++ (d ∷ back))) ≡ Extra (length front)
unfolding StandsAt
again_behind front [] i d at held rising =
    ap (finding_of (front ++ [])) (bytes_of-append front (d ∷ [])) ∙ past front [] held (bytes_of (d ∷ [])) 1 (length-bytes_of (d ∷ [])) refl (omega arith)
again_behind front (e ∷ back) i d at held rising =
    let there = at_left front (e ∷ back) i d at in
    sooner_given front e back held d (e ∷ back) (held i d there) (over_seam front (e ∷ back) rising i d e (at_short front i d at) there refl)

-- A record put in again before itself, with another one between: the due one is absent, where it was put.
pub again_before : (front : List Record) (e : Record) (back : List Record) (i : ℕ) (d : Record) → StandsAt back i d → AllHeld (front ++ (e ∷ back)) → Rising (front ++ (e ∷ back)) → finding_of (front ++ (e ∷ back)) (bytes_of (front ++ (d ∷ e ∷ back))) ≡ Absent (length front)
unfolding StandsAt
again_before front e back i d at held rising =
    later_given front e back held d (e ∷ back) (held (length front + suc i) d (at_right front (e ∷ back) (suc i) d at)) (in_back front (e ∷ back) rising i e d refl at)

-- A record moved to a later place: it is absent, where it stood.
pub moved_on : (front : List Record) (d e : Record) (mid back : List Record) → AllHeld (front ++ (d ∷ e ∷ (mid ++ back))) → Rising (front ++ (d ∷ e ∷ (mid ++ back)))
    → finding_of (front ++ (d ∷ e ∷ (mid ++ back))) (bytes_of (front ++ (e ∷ (mid ++ (d ∷ back))))) ≡ Absent (length front)
unfolding StandsAt
moved_on front d e mid back held rising =
    later_given front d (e ∷ (mid ++ back)) held e (mid ++ (d ∷ back)) (held (length front + 1) e (at_right front (d ∷ e ∷ (mid ++ back)) 1 e refl)) (in_back front (d ∷ e ∷ (mid ++ back)) rising 0 d e refl refl)

-- A record moved to an earlier place: the one that is due there is absent.
pub moved_back : (front : List Record) (e : Record) (mid : List Record) (d : Record) (back : List Record) → AllHeld (front ++ (e ∷ (mid ++ (d ∷ back)))) → Rising (front ++ (e ∷ (mid ++ (d ∷ back))))
    → finding_of (front ++ (e ∷ (mid ++ (d ∷ back)))) (bytes_of (front ++ (d ∷ e ∷ (mid ++ back)))) ≡ Absent (length front)
unfolding StandsAt
moved_back front e mid d back held rising =
    let there = subst (λ (k : ℕ). StandsAt (mid ++ (d ∷ back)) k d) (let z : length mid + 0 ≡ length mid = omega arith in z) (at_right mid (d ∷ back) 0 d refl) in
    later_given front e (mid ++ (d ∷ back)) held d (e ∷ (mid ++ back)) (held (length front + suc (length mid)) d (at_right front (e ∷ (mid ++ (d ∷ back))) (suc (length mid)) d there)) (in_back front (e ∷ (mid ++ (d ∷ back))) rising (length mid) e d refl there)

-- ---- one byte changed

module _ (front : List Record) (d : Record) (back : List Record) (held : AllHeld (front ++ (d ∷ back))) (o x : ℕ) (inside : o < spot_width) where
  abbrev due-bytes : List ℕ
  due-bytes = record_bytes d

  abbrev own : List ℕ
  own = set due-bytes o x

  own-long : length own ≡ spot_width
  own-long = length-set due-bytes o x ∙ length-record_bytes d

  rest-long : length (own ++ bytes_of back) ≡ suc (length back) * spot_width
  rest-long = omega (arith, length-append own (bytes_of back), own-long, length-bytes_of back)

  -- the record that stands there
  read : record_at (changed front d back o x) (length front) ≡ record_from own 0
  read = ap (record_from (changed front d back o x)) (sym (length-bytes_of front) ∙ sym (add-zero (length (bytes_of front)))) ∙ record_from-append (bytes_of front) (own ++ bytes_of back) 0 ∙ left_part
    where
      left_part : record_from (own ++ bytes_of back) 0 ≡ record_from own 0
      left_part = same-bytes-same-record (own ++ bytes_of back) own 0 0 (take_at own (bytes_of back) spot_width own-long ∙ sym (take_all spot_width own (omega (arith, own-long))))

  -- the record that is due
  due_read : record_from due-bytes 0 ≡ d
  due_read = ap (λ (m : List ℕ). record_from m 0) (sym (append-nil due-bytes)) ∙ record_from-record_bytes [] [] d (held (length front) d here)
    where
      here : StandsAt (front ++ (d ∷ back)) (length front) d
      here = subst (λ (i : ℕ). StandsAt (front ++ (d ∷ back)) i d) (let e : length front + 0 ≡ length front = omega arith in e) (at_right front (d ∷ back) 0 d (first-is d back))

  -- a byte of it that was not changed
  kept : (k : ℕ) → (k ≡ o → ⊥) → get_or own k 0 ≡ get_or due-bytes k 0
  kept k h = get_or-set_other due-bytes o k x 0 h

  -- and the one that was
  new : get_or own o 0 ≡ x
  new = get_or-set_same due-bytes o x 0 (omega (arith, length-record_bytes d))

  -- the key and the polarity that stand there, and those that are due
  key_read : (record_at (changed front d back o x) (length front)).key ≡ word_from own 32
  unfolding record_from record_with
  key_read = ap (λ (r : Record). r.key) read

  polarity_read : (record_at (changed front d back o x) (length front)).polarity ≡ get_or own 38 0
  unfolding record_from record_with
  polarity_read = ap (λ (r : Record). r.polarity) read

  key-due : word_from due-bytes 32 ≡ d.key
  unfolding record_from record_with
  key-due = ap (λ (r : Record). r.key) due_read

  polarity-due : get_or due-bytes 38 0 ≡ d.polarity
  unfolding record_from record_with
  polarity-due = ap (λ (r : Record). r.polarity) due_read

  key-kept : (32 ≤ o → o < 36 → ⊥) → word_from own 32 ≡ word_from due-bytes 32
  unfolding word_from
  key-kept out = rw (kept 32 (λ e. out (omega arith) (omega arith)), kept 33 (λ e. out (omega arith) (omega arith)), kept 34 (λ e. out (omega arith) (omega arith)), kept 35 (λ e. out (omega arith) (omega arith)))

  abbrev Four : Type 0
  Four = (o ≡ 32) ⊎ ((o ≡ 33) ⊎ ((o ≡ 34) ⊎ (o ≡ 35)))

  four : 32 ≤ o → o < 36 → Four
  four low high = pick (eq-or-lt_of_le low)
    where
      third : (34 ≡ o) ⊎ (34 < o) → Four
      third (inl e) = inr (inr (inl (sym e)))
      third (inr h) = inr (inr (inr (omega arith)))

      second : (33 ≡ o) ⊎ (33 < o) → Four
      second (inl e) = inr (inl (sym e))
      second (inr h) = third (eq-or-lt_of_le h)

      pick : (32 ≡ o) ⊎ (32 < o) → Four
      pick (inl e) = inl (sym e)
      pick (inr h) = second (eq-or-lt_of_le h)

  new_at : (k : ℕ) → o ≡ k → get_or own k 0 ≡ x
  new_at k e = subst (λ (u : ℕ). get_or own u 0 ≡ x) e new

  old_at : (k : ℕ) → o ≡ k → get_or due-bytes o 0 ≡ get_or due-bytes k 0
  old_at k e = ap (λ (u : ℕ). get_or due-bytes u 0) e

  off : (k j : ℕ) → o ≡ k → (j ≡ k → ⊥) → get_or own j 0 ≡ get_or due-bytes j 0
  off k j e h = kept j (λ q. h (q ∙ e))

  -- a byte of the key that is less makes the key less
  key-less : Four → x < get_or due-bytes o 0 → word_from own 32 < word_from due-bytes 32
  unfolding word_from
  key-less (inl e) h = omega (arith, new_at 32 e, old_at 32 e, off 32 33 e (λ q. omega arith), off 32 34 e (λ q. omega arith), off 32 35 e (λ q. omega arith))
  key-less (inr (inl e)) h = omega (arith, new_at 33 e, old_at 33 e, off 33 32 e (λ q. omega arith), off 33 34 e (λ q. omega arith), off 33 35 e (λ q. omega arith))
  key-less (inr (inr (inl e))) h = omega (arith, new_at 34 e, old_at 34 e, off 34 32 e (λ q. omega arith), off 34 33 e (λ q. omega arith), off 34 35 e (λ q. omega arith))
  key-less (inr (inr (inr e))) h = omega (arith, new_at 35 e, old_at 35 e, off 35 32 e (λ q. omega arith), off 35 33 e (λ q. omega arith), off 35 34 e (λ q. omega arith))

  -- and one that is more makes it more
  key_more : Four → get_or due-bytes o 0 < x → word_from due-bytes 32 < word_from own 32
  unfolding word_from
  key_more (inl e) h = omega (arith, new_at 32 e, old_at 32 e, off 32 33 e (λ q. omega arith), off 32 34 e (λ q. omega arith), off 32 35 e (λ q. omega arith))
  key_more (inr (inl e)) h = omega (arith, new_at 33 e, old_at 33 e, off 33 32 e (λ q. omega arith), off 33 34 e (λ q. omega arith), off 33 35 e (λ q. omega arith))
  key_more (inr (inr (inl e))) h = omega (arith, new_at 34 e, old_at 34 e, off 34 32 e (λ q. omega arith), off 34 33 e (λ q. omega arith), off 34 35 e (λ q. omega arith))
  key_more (inr (inr (inr e))) h = omega (arith, new_at 35 e, old_at 35 e, off 35 32 e (λ q. omega arith), off 35 33 e (λ q. omega arith), off 35 34 e (λ q. omega arith))

  -- the polarity's byte is none of the key's
  key-same : o ≡ 38 → (record_at (changed front d back o x) (length front)).key ≡ d.key
  key-same e = key_read ∙ key-kept (λ low high. omega arith) ∙ key-due

  sooner : Ordering o → x < get_or due-bytes o 0 → Earlier (record_at (changed front d back o x) (length front)) d
  sooner (inl h) less = inl (omega (arith, key_read, key-due, key-less (four h.0 h.1) less))
  sooner (inr e) less = inr (key-same e, omega (arith, polarity_read, polarity-due, new_at 38 e, old_at 38 e))

  later : Ordering o → get_or due-bytes o 0 < x → Earlier d (record_at (changed front d back o x) (length front))
  later (inl h) more = inl (omega (arith, key_read, key-due, key_more (four h.0 h.1) more))
  later (inr e) more = inr (sym (key-same e), omega (arith, polarity_read, polarity-due, new_at 38 e, old_at 38 e))

  one-given : 0 < suc (length back)
  one-given = omega arith

  -- A byte of the key or the polarity that is less than the due one: the record is extra.
  pub changed-less : Ordering o → x < get_or (record_bytes d) o 0 → finding_of (front ++ (d ∷ back)) (changed front d back o x) ≡ Extra (length front)
  changed-less p less = before front (d ∷ back) held (own ++ bytes_of back) (suc (length back)) rest-long d (first-is d back) one-given (sooner p less)

  -- One that is more: the due record is absent.
  pub changed-more : Ordering o → get_or (record_bytes d) o 0 < x → finding_of (front ++ (d ∷ back)) (changed front d back o x) ≡ Absent (length front)
  changed-more p more = behind front (d ∷ back) held (own ++ bytes_of back) (suc (length back)) rest-long d (first-is d back) one-given (later p more)

  own_read : own_bytes (changed front d back o x) (length front) ≡ own
  own_read = ap (take spot_width) (drop_at (bytes_of front) (own ++ bytes_of back) (length front * spot_width) (length-bytes_of front)) ∙ take_at own (bytes_of back) spot_width own-long

  -- Any other byte that is changed: the record is different.
  pub changed_other : (Ordering o → ⊥) → (x ≡ get_or (record_bytes d) o 0 → ⊥) → finding_of (front ++ (d ∷ back)) (changed front d back o x) ≡ Different (length front)
  changed_other out unlike =
      other front (d ∷ back) held (own ++ bytes_of back) (suc (length back)) rest-long d (first-is d back) one-given
      (key_read ∙ key-kept (λ low high. out (inl (low, high))) ∙ key-due)
      (polarity_read ∙ kept 38 (λ e. out (inr (sym e))) ∙ polarity-due)
      (λ e. unlike (sym new ∙ ap (λ (m : List ℕ). get_or m o 0) (sym own_read ∙ e)))
