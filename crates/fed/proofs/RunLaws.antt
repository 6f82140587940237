-- A run of calls, refused ones among them: what it handed over are the spots of the judged columns. Assumes nothing.
use Rattle.std.specs.Prelude.{Ok}
use Prim.Native.Nat.{ℕ, ◌+◌, ◌-◌, ◌*◌, ◌≤◌}
use native.Mathlib.Omega.{arith}
use native.Mathlib.Nat.{add-mul}
use mathlib.Core.Path.{◌≡◌, refl, sym, ap, subst, ◌∙◌}
use mathlib.Core.Logic.{◌⊎◌, ⊎_elim}
use mathlib.Core.List.{List, [], ◌∷◌, ◌++◌, append_assoc, append-nil}
use lib.ListN.{length, take, length-append, get_or-append}
use lib.Seq.{get_or-append-add}
use lib.Ieee.{Float, nan}
use Rattle.record.specs.declared.Record.{Record}
use Rattle.record.specs.Layout.{bytes_of}
use Rattle.grid.specs.Grid.{pixel_at}
use Rattle.ring.specs.declared.State.{State}
use Rattle.samples.specs.Four.{Four}
use Rattle.ring.specs.Ring.{judged_spots, stored}
use Rattle.ring.specs.Lent.{Long}
use Rattle.feed.specs.Feed.{After, next}
use Rattle.fed.specs.Held.{map_of, Column, Held, Given}
use Rattle.fed.specs.Run.{Call, leaves, handed, taken_by, state_after, bytes_after, level_after}
use Rattle.fed.specs.Order.{columns_due, judged_of}
use Rattle.fed.proofs.HeldLaws.{held_next}
use Rattle.fed.proofs.FeedLaws.{Refuses, Takes, call_cases, all_fit, one_more}

bytes-append : (rs ss : List Record) → bytes_of (rs ++ ss) ≡ bytes_of rs ++ bytes_of ss
unfolding bytes_of
bytes-append [] ss = refl
bytes-append (r ∷ rs) ss = rw (bytes-append rs ss, append_assoc)

-- ---- the columns that were taken are those of levels

-- each column that the calls take of the level that pick names is the one of the level l that is due
unfoldable pub Feeds : (Four → List Float) → List Float → State → Four → List Call → Type 0
Feeds pick l s ring [] = ◌≡◌ {A = ℕ} 0 0
Feeds pick l s ring (c ∷ cs) =
    ((n : ℕ) → (leaves s ring c).answer ≡ Ok n → Column l s.rows s.position (pick c.columns)) × Feeds pick l (leaves s ring c).state (leaves s ring c).ring cs

-- the same of four levels
pub record FeedsAll (l : Four) (s : State) (ring : Four) (cs : List Call) : Type 0 where
  pub l0 : Feeds (λ f. f.l0) l.l0 s ring cs
  pub l1 : Feeds (λ f. f.l1) l.l1 s ring cs
  pub l2 : Feeds (λ f. f.l2) l.l2 s ring cs
  pub l3 : Feeds (λ f. f.l3) l.l3 s ring cs

-- the first call's columns, and the calls after it
first-given : (l : Four) (s : State) (ring : Four) (c : Call) (cs : List Call) (n : ℕ) → FeedsAll l s ring (c ∷ cs) → (leaves s ring c).answer ≡ Ok n
    → Given (map_of s l) s.position c.columns
unfolding Feeds
first-given l s ring c cs n f e = record { l0 = f.l0.0 n e; l1 = f.l1.0 n e; l2 = f.l2.0 n e; l3 = f.l3.0 n e }

later_given : (l : Four) (s : State) (ring : Four) (c : Call) (cs : List Call) → FeedsAll l s ring (c ∷ cs) → FeedsAll l (leaves s ring c).state (leaves s ring c).ring cs
unfolding Feeds
later_given l s ring c cs f = record { l0 = f.l0.1; l1 = f.l1.1; l2 = f.l2.1; l3 = f.l3.1 }

pub state_cons : (s : State) (ring : Four) (c : Call) (cs : List Call) → state_after s ring (c ∷ cs) ≡ state_after (leaves s ring c).state (leaves s ring c).ring cs
unfolding state_after
state_cons s ring c cs = refl

-- ---- the bytes

abbrev judged_bytes : Four → State → ℕ → List ℕ
judged_bytes l s n = bytes_of (columns_due (map_of s l) (judged_of s.cols n))

-- what a run hands over, behind what was handed over before it
abbrev Handed : Four → State → Four → List Call → Type 0
Handed l s ring cs = judged_bytes l s s.position ++ bytes_after s ring cs ≡ judged_bytes l s (state_after s ring cs).position

module _ (l : Four) (s : State) (ring : Four) (c : Call) (cs : List Call) (held : Held (map_of s l) s.position ring) (f : FeedsAll l s ring (c ∷ cs))
    (ih : (s' : State) (ring' : Four) → Held (map_of s' l) s'.position ring' → FeedsAll l s' ring' cs → Handed l s' ring' cs) where
  handed-refused : Refuses s c.columns ring c.out → Handed l s ring (c ∷ cs)
  unfolding bytes_after handed
  handed-refused r = rw (state_cons, r.is) (ih s ring held (rw r.is at (later_given l s ring c cs f)))

  handed_taken : Takes s c.columns ring c.out → Handed l s ring (c ∷ cs)
  unfolding bytes_after handed
  handed_taken t =
      let rs : List Record = judged_spots s ring c.columns in
      let given : Given (map_of s l) s.position c.columns = first-given l s ring c cs (length rs) f (ap (λ (a : After). a.answer) t.is) in
      let more = ih (next s) (stored s ring c.columns) (held_next s l ring held c.columns given t.checks.roomy) (rw t.is at (later_given l s ring c cs f)) in
      rw (state_cons, t.is, all_fit rs c.out t.checks.fit, ← append_assoc, ← bytes-append, one_more s l ring held c.columns given) more

pub run_bytes : (l : Four) (s : State) (ring : Four) (cs : List Call) → Held (map_of s l) s.position ring → FeedsAll l s ring cs → Handed l s ring cs
unfolding bytes_after state_after
run_bytes l s ring [] held f = append-nil _
run_bytes l s ring (c ∷ cs) held f =
    ⊎_elim (handed-refused l s ring c cs held f (λ s' ring'. run_bytes l s' ring' cs)) (handed_taken l s ring c cs held f (λ s' ring'. run_bytes l s' ring' cs))
    (call_cases s c.columns ring c.out)

-- ---- runs, call by call

-- what holds of no call, and of a call more whether it is refused or taken, holds of every run
pub by_calls : (P : State → Four → List Call → Type 0)
    → ((s : State) (ring : Four) → P s ring [])
    → ((s : State) (ring : Four) (c : Call) (cs : List Call) → Refuses s c.columns ring c.out → P s ring cs → P s ring (c ∷ cs))
    → ((s : State) (ring : Four) (c : Call) (cs : List Call) → Takes s c.columns ring c.out → P (next s) (stored s ring c.columns) cs → P s ring (c ∷ cs))
    → (s : State) (ring : Four) (cs : List Call) → P s ring cs
by_calls P none refuse take s ring [] = none s ring
by_calls P none refuse take s ring (c ∷ cs) =
    ⊎_elim (λ r. refuse s ring c cs r (by_calls P none refuse take s ring cs))
    (λ t. take s ring c cs t (by_calls P none refuse take (next s) (stored s ring c.columns) cs))
    (call_cases s c.columns ring c.out)

-- no more columns are taken than there are
pub position_most : (s : State) (ring : Four) (cs : List Call) → s.position ≤ s.cols → (state_after s ring cs).position ≤ s.cols
unfolding state_after
position_most =
    by_calls (λ s ring cs. s.position ≤ s.cols → (state_after s ring cs).position ≤ s.cols)
    (λ s ring h. h)
    (λ s ring c cs r ih h. rw (state_cons, r.is) (ih h))
    (λ s ring c cs t ih h. rw (state_cons, t.is) (ih (omega (arith, t.checks.to_come))))

-- a run goes on with the set, the thresholds and the size that it began with
pub map-kept : (l : Four) (s : State) (ring : Four) (cs : List Call) → map_of (state_after s ring cs) l ≡ map_of s l
unfolding state_after
map-kept l =
    by_calls (λ s ring cs. map_of (state_after s ring cs) l ≡ map_of s l)
    (λ s ring. refl)
    (λ s ring c cs r ih. rw (state_cons, r.is) ih)
    (λ s ring c cs t ih. rw (state_cons, t.is) ih)

-- Theorem: a refused call changes nothing of the run.
pub refused_skipped : (s : State) (ring : Four) (c : Call) (cs : List Call) → Refuses s c.columns ring c.out
    → (state_after s ring (c ∷ cs) ≡ state_after s ring cs) × (bytes_after s ring (c ∷ cs) ≡ bytes_after s ring cs)
unfolding bytes_after handed
refused_skipped s ring c cs r = (rw (state_cons, r.is), rw r.is)

-- ---- the levels that the columns make up

module _ (pick : Four → List Float) (picks : (rows : ℕ) (g : Four) → Long rows g → length (pick g) ≡ rows) where
  level-cons : (s : State) (ring : Four) (c : Call) (cs : List Call)
      → level_after pick s ring (c ∷ cs) ≡ taken_by (leaves s ring c).answer (pick c.columns) ++ level_after pick (leaves s ring c).state (leaves s ring c).ring cs
  unfolding level_after
  level-cons s ring c cs = refl

  level_refused : (s : State) (ring : Four) (c : Call) (cs : List Call) → Refuses s c.columns ring c.out → level_after pick s ring (c ∷ cs) ≡ level_after pick s ring cs
  unfolding taken_by
  level_refused s ring c cs r = rw (level-cons, r.is)

  level_taken : (s : State) (ring : Four) (c : Call) (cs : List Call) → Takes s c.columns ring c.out
      → level_after pick s ring (c ∷ cs) ≡ pick c.columns ++ level_after pick (next s) (stored s ring c.columns) cs
  unfolding taken_by
  level_taken s ring c cs t = rw (level-cons, t.is)

  -- a level is as long as its taken columns
  pub level_long : (s : State) (ring : Four) (cs : List Call) → s.position * s.rows + length (level_after pick s ring cs) ≡ (state_after s ring cs).position * s.rows
  unfolding level_after state_after
  level_long =
      by_calls (λ s ring cs. s.position * s.rows + length (level_after pick s ring cs) ≡ (state_after s ring cs).position * s.rows)
      (λ s ring. omega arith)
      (λ s ring c cs r ih. rw (level_refused s ring c cs r, state_cons, r.is) ih)
      (λ s ring c cs t ih.
      rw (level_taken s ring c cs t, state_cons, t.is)
      (omega (arith, length-append (pick c.columns) (level_after pick (next s) (stored s ring c.columns) cs), picks s.rows c.columns t.checks.long, add-mul s.position 1 s.rows) ∙ ih))

  -- the first column of what follows the done ones
  column_there : (done c more : List Float) (rows n : ℕ) → length done ≡ n * rows → length c ≡ rows → Column (done ++ (c ++ more)) rows n c
  unfolding pixel_at
  column_there done c more rows n e long = record {
    long = long;
    same = λ row inside. sym (rw (← e) (get_or-append-add done (c ++ more) row nan ∙ get_or-append c more nan row (rw long inside)));
  }

  abbrev Follows : State → Four → List Call → Type 0
  Follows s ring cs = (done rest : List Float) → length done ≡ s.position * s.rows → Feeds pick (done ++ (level_after pick s ring cs ++ rest)) s ring cs

  follows_refused : (s : State) (ring : Four) (c : Call) (cs : List Call) → Refuses s c.columns ring c.out → Follows s ring cs → Follows s ring (c ∷ cs)
  unfolding Feeds
  follows_refused s ring c cs r ih done rest e = (
    λ n taken. let q = r.is in let z : ◌≡◌ {A = ℕ} 0 1 = cc in let y : ⊥ = omega arith in absurd y,
    let P : After → Type 0 = λ o. Feeds pick (done ++ (level_after pick s ring (c ∷ cs) ++ rest)) o.state o.ring cs in
        subst P (sym r.is) (rw (level_refused s ring c cs r) (ih done rest e)),
  )

  follows_taken : (s : State) (ring : Four) (c : Call) (cs : List Call) → Takes s c.columns ring c.out → Follows (next s) (stored s ring c.columns) cs → Follows s ring (c ∷ cs)
  unfolding Feeds
  follows_taken s ring c cs t ih done rest e =
      let x : List Float = pick c.columns in
      let long : length x ≡ s.rows = picks s.rows c.columns t.checks.long in
      let further = ih (done ++ x) rest (omega (arith, length-append done x, add-mul s.position 1 s.rows)) in (
        λ n taken. rw (level_taken s ring c cs t, append_assoc x) (column_there done x _ s.rows s.position e long),
        let P : After → Type 0 = λ o. Feeds pick (done ++ (level_after pick s ring (c ∷ cs) ++ rest)) o.state o.ring cs in
            subst P (sym t.is) (rw (level_taken s ring c cs t, append_assoc x) (rw (append_assoc done x) at further)),
      )

  -- the columns that a run takes are those of the level that they make up, whatever follows it
  pub level_follows : (s : State) (ring : Four) (cs : List Call) → Follows s ring cs
  unfolding Feeds
  level_follows = by_calls Follows (λ s ring done rest e. refl) follows_refused follows_taken
