-- A slot's count is what it was and the claims and writes of it that were done since. So it never wraps, and where it has not changed, the set was not written. Assumes nothing.
use Rattle.std.specs.Prelude.{Result, Ok, Err, ⊤}
use Prim.Native.Nat.{ℕ, ◌+◌, ◌≤◌}
use native.Mathlib.Omega.{arith}
use mathlib.Core.Bool.{Bool, true, false, cond}
use mathlib.Core.Path.{◌≡◌, refl, sym, ap, ◌∙◌}
use mathlib.Core.List.{List, [], ◌∷◌}
use lib.Dec.{eqb}
use borrow.Author.Tests.{eqb-true, eqb-false}
use Rattle.tables.specs.Refusal.{first_of}
use Rattle.tables.specs.declared.Refusal.{Refusal}
use Rattle.desks.specs.Table.{Slot, slot_of, At}
use Rattle.desks.specs.Desks.{Act, Claim, Write, Release, usable, top, call_checks, call_of}
use Rattle.desks.proofs.CallLaws.{claim_fine, write_fine}
use Rattle.apart.specs.Slots.{told_by, slot_done, slot_by, slot_after}
use Rattle.apart.specs.Calls.{What, Acts, Runs, Call, after, table_after}
use Rattle.apart.specs.Counts.{adds, if_done, write_of, writes}
use Rattle.apart.proofs.SlotLaws.{answer-is, own-slot, other_slot}
use Rattle.apart.proofs.Alone.{length-after}

-- ---- by the slot alone

count_by : (w : Result ⊤ Refusal) (act : Act) (desk : ℕ) (s : Slot) → (slot_by w s (slot_done act desk s)).count ≡ s.count + if_done (told_by w) (adds act)
unfolding slot_by slot_done told_by if_done adds
count_by (Err r) act desk s = omega arith
count_by (Ok _) Claim desk s = omega arith
count_by (Ok _) (Write new) desk s = omega arith
count_by (Ok _) Release desk s = omega arith

set-by : (w : Result ⊤ Refusal) (act : Act) (desk : ℕ) (s : Slot) → if_done (told_by w) (adds act) ≡ 0 → (slot_by w s (slot_done act desk s)).bytes ≡ s.bytes
unfolding slot_by slot_done told_by if_done adds
set-by (Err r) act desk s e = refl
set-by (Ok _) Claim desk s e = let z : ⊥ = omega (arith, e) in absurd z
set-by (Ok _) (Write new) desk s e = let z : ⊥ = omega (arith, e) in absurd z
set-by (Ok _) Release desk s e = refl

most-by : (act : Act) (desk : ℕ) (u : Bool) (s : Slot) → s.count ≤ top → (slot_after act desk u s).count ≤ top
unfolding slot_by slot_done
most-by act desk u s h = go act (first_of (call_checks act desk u s)) refl
  where
    go : (a : Act) (w : Result ⊤ Refusal) → first_of (call_checks a desk u s) ≡ w → (slot_by w s (slot_done a desk s)).count ≤ top
    go a (Err r) e = h
    go Claim (Ok _) e = let room = (claim_fine desk u s e).1 in omega arith
    go (Write new) (Ok _) e = let room = (write_fine desk u s new e).1 in omega arith
    go Release (Ok _) e = h

-- ---- one call

module _ (i d : ℕ) (t : List ℕ) (p : At t i) where
  count_call : (w : What) → (slot_of (after d w t) i).count ≡ (slot_of t i).count + write_of i d w t
  unfolding after write_of
  count_call (Runs r j) = omega arith
  count_call (Acts act j) = go (eqb j i) refl
    where
      go : (b : Bool) → eqb j i ≡ b → (slot_of (call_of act t d j).table i).count ≡ (slot_of t i).count + cond b (if_done (call_of act t d j).answer (adds act)) 0
      go true e =
          let at : j ≡ i = eqb-true j i e in
          rw (at, answer-is act d i t) (ap (λ (s : Slot). s.count) (own-slot t i p act d) ∙ count_by (first_of (call_checks act d (usable d i t) (slot_of t i))) act d (slot_of t i))
      go false e = let none : (slot_of t i).count + 0 ≡ (slot_of t i).count = omega arith in rw none (ap (λ (s : Slot). s.count) (other_slot act d i j t p.inside (λ g. eqb-false j i e (sym g))))

  set_call : (w : What) → write_of i d w t ≡ 0 → (slot_of (after d w t) i).bytes ≡ (slot_of t i).bytes
  unfolding after write_of
  set_call (Runs r j) h = refl
  set_call (Acts act j) h = go (eqb j i) refl h
    where
      go : (b : Bool) → eqb j i ≡ b → cond b (if_done (call_of act t d j).answer (adds act)) 0 ≡ 0 → (slot_of (call_of act t d j).table i).bytes ≡ (slot_of t i).bytes
      go true e n =
          let at : j ≡ i = eqb-true j i e in
          let none : if_done (told_by (first_of (call_checks act d (usable d i t) (slot_of t i)))) (adds act) ≡ 0 = ap (λ x. if_done x (adds act)) (sym (answer-is act d i t)) ∙ rw at at n in
          rw at (ap (λ (s : Slot). s.bytes) (own-slot t i p act d) ∙ set-by (first_of (call_checks act d (usable d i t) (slot_of t i))) act d (slot_of t i) none)
      go false e n = ap (λ (s : Slot). s.bytes) (other_slot act d i j t p.inside (λ g. eqb-false j i e (sym g)))

  most_call : (w : What) → (slot_of t i).count ≤ top → (slot_of (after d w t) i).count ≤ top
  unfolding after
  most_call (Runs r j) h = h
  most_call (Acts act j) h = go (eqb j i) refl
    where
      go : (b : Bool) → eqb j i ≡ b → (slot_of (call_of act t d j).table i).count ≤ top
      go true e = let at : j ≡ i = eqb-true j i e in rw (at, own-slot t i p act d) (most-by act d (usable d i t) (slot_of t i) h)
      go false e = rw (other_slot act d i j t p.inside (λ g. eqb-false j i e (sym g))) h

  at_after : (w : What) → At (after d w t) i
  at_after w = record { long = length-after d w t ∙ p.long; inside = p.inside }

-- ---- a history

-- the count is the one before and one for each claim and write of the slot that was done
pub count-adds : (i : ℕ) (cs : List Call) (t : List ℕ) → At t i → (slot_of (table_after cs t) i).count ≡ (slot_of t i).count + writes i cs t
unfolding table_after writes
count-adds i [] t p = omega arith
count-adds i (c ∷ cs) t p =
    let now : List ℕ = after c.by c.what t in
    let further = count-adds i cs now (at_after i c.by t p c.what) in
    let first = count_call i c.by t p c.what in
    omega arith

-- so it never falls, and it never wraps: a count that a u32 holds stays one
pub count_held : (i : ℕ) (cs : List Call) (t : List ℕ) → At t i → (slot_of t i).count ≤ top → (slot_of (table_after cs t) i).count ≤ top
unfolding table_after
count_held i [] t p h = h
count_held i (c ∷ cs) t p h = count_held i cs (after c.by c.what t) (at_after i c.by t p c.what) (most_call i c.by t p c.what h)

unwritten : (i : ℕ) (cs : List Call) (t : List ℕ) → At t i → writes i cs t ≡ 0 → (slot_of (table_after cs t) i).bytes ≡ (slot_of t i).bytes
unfolding table_after writes
unwritten i [] t p h = refl
unwritten i (c ∷ cs) t p h =
    let now : List ℕ = after c.by c.what t in
    unwritten i cs now (at_after i c.by t p c.what) (omega (arith, h)) ∙ set_call i c.by t p c.what (omega (arith, h))

-- between two equal counts of a slot no claim or write of it was done, and its set is the one that it was
pub same_count : (i : ℕ) (cs : List Call) (t : List ℕ) → At t i → (slot_of (table_after cs t) i).count ≡ (slot_of t i).count → (writes i cs t ≡ 0) × ((slot_of (table_after cs t) i).bytes ≡ (slot_of t i).bytes)
same_count i cs t p e = let none : writes i cs t ≡ 0 = omega (arith, e, count-adds i cs t p) in (none, unwritten i cs t p none)

-- and with the same owner the whole slot is
pub same-slot : (i : ℕ) (cs : List Call) (t : List ℕ) → At t i → (slot_of (table_after cs t) i).count ≡ (slot_of t i).count → (slot_of (table_after cs t) i).owner ≡ (slot_of t i).owner
    → slot_of (table_after cs t) i ≡ slot_of t i
same-slot i cs t p e o = go (slot_of (table_after cs t) i) (slot_of t i) (same_count i cs t p e).1 o e
  where
    go : (a b : Slot) → a.bytes ≡ b.bytes → a.owner ≡ b.owner → a.count ≡ b.count → ◌≡◌ {A = Slot} a b
    go a b f g h =
        ap (λ (x : List ℕ). record { bytes = x; owner = a.owner; count = a.count }) f
        ∙ ap (λ (x : ℕ). record { bytes = b.bytes; owner = x; count = a.count }) g
        ∙ ap (λ (x : ℕ). record { bytes = b.bytes; owner = b.owner; count = x }) h
