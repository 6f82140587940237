-- From its claim until it gives the slot back, a desk's slot is its own: what its calls there are answered, runs and refusals too, is what they would be answered
-- if nobody else called anything. Assumes nothing.
use Rattle.std.specs.Prelude.{Result, Ok, Err, ⊤}
use Prim.Native.Nat.{ℕ, ◌<◌}
use native.Mathlib.Omega.{arith}
use mathlib.Core.Bool.{Bool, true, false, cond, ◌&&◌, false≢true}
use mathlib.Core.Path.{◌≡◌, refl, sym, ap, ◌∙◌}
use mathlib.Core.List.{List, [], ◌∷◌}
use lib.Dec.{eqb}
use lib.ListN.{length}
use borrow.Author.Tests.{eqb-true, eqb-false, eq-eqb, ne_eqb, lt-ltb}
use Rattle.float.proofs.Bools.{both}
use Rattle.tables.specs.declared.Refusal.TheVariants.{NotYours}
use Rattle.tables.specs.declared.Refusal.{Refusal}
use Rattle.tables.specs.Refusal.{first_of}
use Rattle.desks.specs.Table.{table_width, Slot, slot_of, runnable}
use Rattle.desks.specs.Desks.{Act, Claim, Write, Release, usable, needed, call_checks, call_of}
use Rattle.desks.proofs.CallLaws.{desk_small, not-owned, done-fine, usable_parts}
use Rattle.desk_run.proofs.RunLaws.{run_detects}
use Rattle.apart.specs.Slots.{slot_done, slot_by, Owned}
use Rattle.apart.specs.Calls.{What, Acts, Runs, Call, Reply, slot_named, gives_back, after, reply_to, table_after, own_call, only, replies_at, slot_then, reply_by, alone, of_desk}
use Rattle.apart.proofs.SlotLaws.{length-kept, answer-is, own-slot, other_slot, fine-usable}

-- ---- one call

pub length-after : (d : ℕ) (w : What) (t : List ℕ) → length (after d w t) ≡ length t
unfolding after
length-after d (Acts act j) t = length-kept act d j t
length-after d (Runs r j) t = refl

module _ (desk i : ℕ) where
  owned-usable : (t : List ℕ) → Owned desk i t → usable desk i t ≡ true
  unfolding usable
  owned-usable t p = rw (eq-eqb (length t) table_width p.long, lt-ltb i 8 p.inside, p.named)

  pub owned-runnable : (t : List ℕ) → Owned desk i t → runnable t i ≡ true
  unfolding runnable
  owned-runnable t p = rw (eq-eqb (length t) table_width p.long, lt-ltb i 8 p.inside, p.owner, p.named)

  -- an own call is answered by the slot alone
  own_reply : (w : What) (t : List ℕ) → Owned desk i t → slot_named w ≡ i → reply_to desk w t ≡ reply_by desk w (slot_of t i)
  unfolding slot_named reply_to reply_by
  own_reply (Acts act j) t p e = rw (e, answer-is act desk i t, owned-usable t p)
  own_reply (Runs r j) t p e = rw (e, run_detects t i r.thresholds r.rows r.cols r.octave r.l0 r.l1 r.l2 r.l3 r.out (owned-runnable t p))

  -- and makes of the slot what the slot alone tells
  own_then : (w : What) (t : List ℕ) → Owned desk i t → slot_named w ≡ i → slot_of (after desk w t) i ≡ slot_then desk w (slot_of t i)
  unfolding slot_named after slot_then
  own_then (Acts act j) t p e = rw e (own-slot t i (record { long = p.long; inside = p.inside }) act desk ∙ rw (owned-usable t p))
  own_then (Runs r j) t p e = refl

  -- what does not give it back keeps its owner
  owner-stays : (w : What) (s : Slot) → s.owner ≡ desk → gives_back w ≡ false → (slot_then desk w s).owner ≡ desk
  unfolding slot_then gives_back slot_by slot_done
  owner-stays (Acts Claim j) s o n = go (first_of (call_checks Claim desk true s))
    where
      go : (w : Result ⊤ Refusal) → (slot_by w s (slot_done Claim desk s)).owner ≡ desk
      go (Err r) = o
      go (Ok _) = refl
  owner-stays (Acts (Write new) j) s o n = go (first_of (call_checks (Write new) desk true s))
    where
      go : (w : Result ⊤ Refusal) → (slot_by w s (slot_done (Write new) desk s)).owner ≡ desk
      go (Err r) = o
      go (Ok _) = o
  owner-stays (Acts Release j) s o n = absurd (false≢true (sym n))
  owner-stays (Runs r j) s o n = o

  -- another desk's call at the slot is refused with 11
  pub foreign : (act : Act) (d : ℕ) (u : Bool) (s : Slot) → s.owner ≡ desk → 0 < desk → (desk ≡ d → ⊥) → first_of (call_checks act d u s) ≡ Err NotYours
  unfolding needed
  foreign act d u s o some other = not-owned d u s act (go u (differs act))
    where
      differs : (a : Act) → eqb s.owner (needed a d) ≡ false
      differs Claim = ne_eqb s.owner 0 (λ e. omega arith)
      differs (Write new) = ne_eqb s.owner d (λ e. other (sym o ∙ e))
      differs Release = ne_eqb s.owner d (λ e. other (sym o ∙ e))

      go : (b : Bool) → eqb s.owner (needed act d) ≡ false → (b && eqb s.owner (needed act d)) ≡ false
      go true e = e
      go false e = refl

  own-named : (c : Call) → own_call desk i c ≡ true → (c.by ≡ desk) × (slot_named c.what ≡ i)
  unfolding own_call
  own-named c e = let b = both (eqb c.by desk) (eqb (slot_named c.what) i) e in (eqb-true c.by desk b.0, eqb-true (slot_named c.what) i b.1)

  -- a call that is not both the desk's and at the slot leaves it
  others_leave : (c : Call) (t : List ℕ) → Owned desk i t → own_call desk i c ≡ false → slot_of (after c.by c.what t) i ≡ slot_of t i
  unfolding own_call slot_named after slot_by
  others_leave c t p away = go c.what away
    where
      same-slot : (act : Act) → (eqb c.by desk) ≡ false → slot_of (call_of act t c.by i).table i ≡ slot_of t i
      same-slot act e =
          own-slot t i (record { long = p.long; inside = p.inside }) act c.by
          ∙ rw (foreign act c.by (usable c.by i t) (slot_of t i) p.owner (desk_small desk p.named).0 (λ g. eqb-false c.by desk e (sym g)))

      go : (w : What) → (eqb c.by desk && eqb (slot_named w) i) ≡ false → slot_of (after c.by w t) i ≡ slot_of t i
      go (Runs r j) n = refl
      go (Acts act j) n = by-slot (eqb j i) refl (eqb c.by desk) refl n
        where
          by-slot : (a : Bool) → eqb j i ≡ a → (b : Bool) → eqb c.by desk ≡ b → (b && a) ≡ false → slot_of (call_of act t c.by j).table i ≡ slot_of t i
          by-slot true e true f h = absurd (false≢true (sym h))
          by-slot true e false f h = let at : j ≡ i = eqb-true j i e in rw at (same-slot act f)
          by-slot false e b f h = other_slot act c.by i j t p.inside (λ g. eqb-false j i e (sym g))

  -- it is then still the desk's
  still_owned : (t t' : List ℕ) → Owned desk i t → length t' ≡ length t → (slot_of t' i).owner ≡ desk → Owned desk i t'
  still_owned t t' p l o = record { long = l ∙ p.long; inside = p.inside; named = p.named; owner = o }

  others-owned : (c : Call) (t : List ℕ) → Owned desk i t → own_call desk i c ≡ false → Owned desk i (after c.by c.what t)
  others-owned c t p away = still_owned t _ p (length-after c.by c.what t) (ap (λ (s : Slot). s.owner) (others_leave c t p away) ∙ p.owner)

  -- ---- a history

  -- whatever others call, with whatever answers, the slot keeps its set, its owner and its count
  pub others_keep : (cs : List Call) (t : List ℕ) → Owned desk i t → only (own_call desk i) cs ≡ [] → slot_of (table_after cs t) i ≡ slot_of t i
  unfolding table_after only
  others_keep [] t p none = refl
  others_keep (c ∷ cs) t p none = go (own_call desk i c) refl none (λ u q n. others_keep cs u q n)
    where
      go : (b : Bool) → own_call desk i c ≡ b → cond b (c ∷ only (own_call desk i) cs) (only (own_call desk i) cs) ≡ []
          → ((u : List ℕ) → Owned desk i u → only (own_call desk i) cs ≡ [] → slot_of (table_after cs u) i ≡ slot_of u i)
          → slot_of (table_after cs (after c.by c.what t)) i ≡ slot_of t i
      go true e n further = let z : ◌≡◌ {A = ℕ} 0 1 = cc in let w : ⊥ = omega arith in absurd w
      go false e n further = further (after c.by c.what t) (others-owned c t p e) n ∙ others_leave c t p e

  -- what a desk's calls at its slot are answered, until it gives the slot back, is told by these calls and by the slot at the start
  pub replies_alone : (cs : List Call) (t : List ℕ) → Owned desk i t → replies_at desk i cs t ≡ alone desk (only (own_call desk i) cs) (slot_of t i)
  unfolding replies_at only alone
  replies_alone [] t p = refl
  replies_alone (c ∷ cs) t p = go (own_call desk i c) refl (λ u q. replies_alone cs u q)
    where
      go : (b : Bool) → own_call desk i c ≡ b
          → ((u : List ℕ) → Owned desk i u → replies_at desk i cs u ≡ alone desk (only (own_call desk i) cs) (slot_of u i))
          → cond b (reply_to c.by c.what t ∷ cond (gives_back c.what) [] (replies_at desk i cs (after c.by c.what t))) (replies_at desk i cs (after c.by c.what t))
          ≡ alone desk (cond b (c ∷ only (own_call desk i) cs) (only (own_call desk i) cs)) (slot_of t i)
      go false e further =
          further (after c.by c.what t) (others-owned c t p e) ∙ ap (λ (s : Slot). alone desk (only (own_call desk i) cs) s) (others_leave c t p e)
      go true e further = own_call_lem c.by c.what (own-named c e).0 (own-named c e).1
        where
          own_call_lem : (d : ℕ) (w : What) → d ≡ desk → slot_named w ≡ i
              → reply_to d w t ∷ cond (gives_back w) [] (replies_at desk i cs (after d w t)) ≡ reply_by desk w (slot_of t i) ∷ cond (gives_back w) [] (alone desk (only (own_call desk i) cs) (slot_then desk w (slot_of t i)))
          own_call_lem d w its at = rw (its, own_reply w t p at) (ap (λ (l : List Reply). reply_by desk w (slot_of t i) ∷ l) (rest (gives_back w) refl))
            where
              rest : (b : Bool) → gives_back w ≡ b → cond b [] (replies_at desk i cs (after desk w t)) ≡ cond b [] (alone desk (only (own_call desk i) cs) (slot_then desk w (slot_of t i)))
              rest true f = refl
              rest false f =
                  let then = own_then w t p at in
                  further (after desk w t) (still_owned t _ p (length-after desk w t) (ap (λ (s : Slot). s.owner) then ∙ owner-stays w (slot_of t i) p.owner f))
                  ∙ ap (λ (s : Slot). alone desk (only (own_call desk i) cs) s) then

  -- so two histories, from tables that have that slot alike, in which the desk's calls at the slot are the same, give them the same answers
  pub replies_agree : (cs cs' : List Call) (t t' : List ℕ) → Owned desk i t → Owned desk i t' → slot_of t i ≡ slot_of t' i → only (own_call desk i) cs ≡ only (own_call desk i) cs'
      → replies_at desk i cs t ≡ replies_at desk i cs' t'
  replies_agree cs cs' t t' p p' slots calls =
      replies_alone cs t p ∙ ap (λ (l : List Call). alone desk l (slot_of t i)) calls ∙ ap (λ (s : Slot). alone desk (only (own_call desk i) cs') s) slots ∙ sym (replies_alone cs' t' p')

  -- ---- from the claim on

  -- after a claim that is done the slot is the desk's
  pub claimed_owned : (t : List ℕ) → (call_of Claim t desk i).answer ≡ Ok tt → Owned desk i (call_of Claim t desk i).table
  unfolding slot_by slot_done
  claimed_owned t done =
      let fine = done-fine Claim t desk i done in
      let named = usable_parts desk i t (fine-usable Claim desk i t fine) in
      record {
        long = length-kept Claim desk i t ∙ named.0.long;
        inside = named.0.inside;
        named = named.1;
        owner = ap (λ (s : Slot). s.owner) (own-slot t i named.0 Claim desk) ∙ rw fine;
      }

  -- the calls of a desk at a slot are those at the slot among the desk's own
  own_among : (cs : List Call) → only (own_call desk i) cs ≡ only (own_call desk i) (only (of_desk desk) cs)
  unfolding only own_call of_desk
  own_among [] = refl
  own_among (c ∷ cs) = go (eqb c.by desk) refl (own_among cs)
    where
      go : (b : Bool) → eqb c.by desk ≡ b → only (own_call desk i) cs ≡ only (own_call desk i) (only (of_desk desk) cs)
          → cond (b && eqb (slot_named c.what) i) (c ∷ only (own_call desk i) cs) (only (own_call desk i) cs) ≡ only (own_call desk i) (cond b (c ∷ only (of_desk desk) cs) (only (of_desk desk) cs))
      go true e further = rw e (ap (λ (l : List Call). cond (true && eqb (slot_named c.what) i) (c ∷ l) l) further)
      go false e further = further

  -- Two whole histories from one table: the same until a claim of the desk's that is done, then differing only in what others call. The desk's runs from the
  -- slot, its writes there, and whatever else it calls there until it gives the slot back are answered alike.
  pub histories_agree : (before cs cs' : List Call) (t : List ℕ) → (call_of Claim (table_after before t) desk i).answer ≡ Ok tt → only (of_desk desk) cs ≡ only (of_desk desk) cs'
      → replies_at desk i cs (call_of Claim (table_after before t) desk i).table ≡ replies_at desk i cs' (call_of Claim (table_after before t) desk i).table
  histories_agree before cs cs' t done same =
      let p = claimed_owned (table_after before t) done in
      replies_agree cs cs' _ _ p p refl (own_among cs ∙ ap (only (own_call desk i)) same ∙ sym (own_among cs'))
