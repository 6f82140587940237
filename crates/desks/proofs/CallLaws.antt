-- What a desk's call settles: the first refusal that applies, by its place; that a refusal changes nothing; what a call that is done had. Assumes nothing.
use Rattle.std.specs.Prelude.{Result, Ok, Err, ⊤}
use Prim.Native.Nat.{ℕ, ◌<◌}
use native.Mathlib.Omega.{arith}
use mathlib.Core.Bool.{Bool, true, false, not, ◌&&◌, ◌||◌, false≢true}
use mathlib.Core.Path.{◌≡◌, refl}
use mathlib.Core.List.{List}
use lib.Dec.{eqb, ltb, leb}
use lib.ListN.{length, length-replicate}
use borrow.Author.Tests.{eqb-true, ltb-true, leb-false, not-false}
use Rattle.float.proofs.Bools.{both}
use Rattle.tables.specs.declared.Refusal.{Refusal}
use Rattle.tables.specs.declared.Refusal.TheVariants.{NotYours}
use Rattle.tables.specs.Refusal.{Check, first_of, unless, said_at, First}
use Rattle.tables.specs.Set.{good_record}
use Rattle.tables.proofs.RefusalLaws as laws
use Rattle.desks.specs.Table.{table_width, Slot, slot_of, At, a_desk, runnable}
use Rattle.desks.specs.Desks.{Act, Claim, Write, Release, usable, needed, top, call_checks, zeros, Outcome, finished, call_of}

pub length-zeros : length zeros ≡ 528
unfolding zeros
length-zeros = length-replicate {A = ℕ} 528 0

-- ---- what is usable

pub usable_parts : (desk i : ℕ) (t : List ℕ) → usable desk i t ≡ true → At t i × (a_desk desk ≡ true)
unfolding usable
usable_parts desk i t e =
    let first = both (eqb (length t) table_width && a_desk desk) (ltb i 8) e in
    let two = both (eqb (length t) table_width) (a_desk desk) first.0 in
    (record { long = eqb-true (length t) table_width two.0; inside = ltb-true i 8 first.1 }, two.1)

-- a slot that detection may be run from is one of the table's
pub runnable_at : (t : List ℕ) (i : ℕ) → runnable t i ≡ true → At t i
unfolding runnable
runnable_at t i e =
    let two = both (eqb (length t) table_width) (ltb i 8) (both (eqb (length t) table_width && ltb i 8) (a_desk (slot_of t i).owner) e).0 in
    record { long = eqb-true (length t) table_width two.0; inside = ltb-true i 8 two.1 }

-- a desk is 1 or 2
pub desk_small : (desk : ℕ) → a_desk desk ≡ true → (0 < desk) × (desk < 3)
desk_small desk e = go (eqb desk 1) refl (eqb desk 2) refl e
  where
    go : (a : Bool) → eqb desk 1 ≡ a → (b : Bool) → eqb desk 2 ≡ b → a || b ≡ true → (0 < desk) × (desk < 3)
    go true p b q h = let is = eqb-true desk 1 p in (omega arith, omega arith)
    go false p true q h = let is = eqb-true desk 2 q in (omega arith, omega arith)
    go false p false q h = absurd (false≢true h)

-- ---- what a call that is done had

-- table, desk and slot are usable, and the slot is whose it must be
pub record Yours (act : Act) (desk : ℕ) (u : Bool) (s : Slot) : Type 0 where
  pub named : u ≡ true
  pub owner : s.owner ≡ needed act desk

yours_of : (act : Act) (desk : ℕ) (u : Bool) (s : Slot) → not (u && eqb s.owner (needed act desk)) ≡ false → Yours act desk u s
yours_of act desk u s e =
    let p = both u (eqb s.owner (needed act desk)) (not-false _ e) in
    record { named = p.0; owner = eqb-true s.owner (needed act desk) p.1 }

module _ (desk : ℕ) (u : Bool) (s : Slot) where
  -- what is not so is refused with 11
  pub not-owned : (act : Act) → (u && eqb s.owner (needed act desk)) ≡ false → first_of (call_checks act desk u s) ≡ Err NotYours
  unfolding call_checks first_of unless
  not-owned Claim e = rw e
  not-owned (Write new) e = rw e
  not-owned Release e = rw e

  pub claim_fine : first_of (call_checks Claim desk u s) ≡ Ok tt → Yours Claim desk u s × (s.count < top)
  unfolding call_checks first_of
  claim_fine e =
      let first = laws.unless-fine (not (u && eqb s.owner (needed Claim desk))) _ _ e in
      let second = laws.unless-fine (leb top s.count) _ _ first.1 in
      (yours_of Claim desk u s first.0, leb-false top s.count second.0)

  pub write_fine : (new : List ℕ) → first_of (call_checks (Write new) desk u s) ≡ Ok tt → Yours (Write new) desk u s × (s.count < top) × (good_record new ≡ true)
  unfolding call_checks first_of
  write_fine new e =
      let first = laws.unless-fine (not (u && eqb s.owner (needed (Write new) desk))) _ _ e in
      let second = laws.unless-fine (leb top s.count) _ _ first.1 in
      let third = laws.unless-fine (not (good_record new)) _ _ second.1 in
      (yours_of (Write new) desk u s first.0, leb-false top s.count second.0, not-false (good_record new) third.0)

  pub release_fine : first_of (call_checks Release desk u s) ≡ Ok tt → Yours Release desk u s
  unfolding call_checks first_of
  release_fine e = yours_of Release desk u s (laws.unless-fine (not (u && eqb s.owner (needed Release desk))) _ _ e).0

-- ---- the refusals of a call

answer-refused : (w : Result ⊤ Refusal) (t new : List ℕ) (r : Refusal) → (finished w t new).answer ≡ Err r → w ≡ Err r
unfolding finished
answer-refused (Err q) t new r e = cc
answer-refused (Ok _) t new r e = cc

answer-done : (w : Result ⊤ Refusal) (t new : List ℕ) → (finished w t new).answer ≡ Ok tt → w ≡ Ok tt
unfolding finished
answer-done (Err q) t new e = cc
answer-done (Ok _) t new e = refl

table_kept : (w : Result ⊤ Refusal) (t new : List ℕ) (r : Refusal) → (finished w t new).answer ≡ Err r → (finished w t new).table ≡ t
unfolding finished
table_kept (Err q) t new r e = refl
table_kept (Ok _) t new r e = cc

module _ (act : Act) (t : List ℕ) (desk i : ℕ) where
  -- the checks of this call
  abbrev checks : List Check
  checks = call_checks act desk (usable desk i t) (slot_of t i)

  abbrev after : Outcome
  after = call_of act t desk i

  -- a refusal that is answered is that of the first check that holds
  pub refused-first : (r : Refusal) → after.answer ≡ Err r → First checks r
  unfolding call_of
  refused-first r e = laws.first-refused checks r (answer-refused _ t _ r e)

  -- and the first that holds is answered
  pub first_answered : (r : Refusal) → First checks r → after.answer ≡ Err r
  unfolding call_of finished
  first_answered r f = rw (laws.refused-first checks r f)

  -- a refusal changes nothing
  pub refused_keeps : (r : Refusal) → after.answer ≡ Err r → after.table ≡ t
  unfolding call_of
  refused_keeps r e = table_kept _ t _ r e

  -- what passes every check is done, and only that
  pub done-fine : after.answer ≡ Ok tt → first_of checks ≡ Ok tt
  unfolding call_of
  done-fine e = answer-done _ t _ e

  pub done_none : after.answer ≡ Ok tt → (k : ℕ) → said_at checks k ≡ Ok tt
  done_none e = laws.first_fine checks (done-fine e)

  pub none_done : ((k : ℕ) → said_at checks k ≡ Ok tt) → after.answer ≡ Ok tt
  unfolding call_of finished
  none_done h = rw (laws.fine-first checks h)
