-- What a call makes of its own slot is told by that slot alone, and every other slot is kept. Assumes nothing.
use Rattle.std.specs.Prelude.{Result, Ok, Err, ⊤}
use Prim.Native.Nat.{ℕ, suc, ◌<◌}
use native.Mathlib.Omega.{arith}
use mathlib.Core.Bool.{Bool, true, false}
use mathlib.Core.Path.{◌≡◌, refl, sym, ◌∙◌}
use mathlib.Core.Logic.{◌⊎◌, inl, inr}
use mathlib.Core.List.{List, [], ◌∷◌}
use lib.Dec.{ltb}
use lib.ListN.{length, set, length-set}
use lib.Seq.{sets, length-sets, get_or-set_same}
use borrow.Author.Tests.{ltb-true, ltb-false}
use Rattle.words.specs.Words.{word_bytes, word_from}
use Rattle.words.proofs.Stores.{part_kept}
use Rattle.words.proofs.Parts.{part_own}
use Rattle.words.proofs.WordsLaws.{length-word_bytes, word_kept, word-own}
use Rattle.tables.specs.Refusal.{first_of}
use Rattle.tables.specs.declared.Refusal.{Refusal}
use Rattle.tables.proofs.SetLaws.{good-long}
use Rattle.desks.specs.Table.{table_width, set_place, owner_place, count_place, slot_of, At}
use Rattle.desks.specs.Desks.{Act, Claim, Write, Release, usable, top, call_checks, zeros, stored, finished, call_of}
use Rattle.desks.proofs.CallLaws.{length-zeros, usable_parts, claim_fine, write_fine, release_fine}
use Rattle.apart.specs.Slots.{told_by, slot_done, slot_by, slot_after}
use Rattle.apart.proofs.TableLaws.{byte_kept, slot_kept, set_apart, owner_apart, count_apart}

-- ---- the table keeps its length

length-stored : (act : Act) (desk i : ℕ) (t : List ℕ) → length (stored act desk i t) ≡ length t
unfolding stored
length-stored Claim desk i t =
    length-sets (set (sets t (set_place i) zeros) (owner_place i) desk) (count_place i) (word_bytes (suc (slot_of t i).count)) ∙ length-set (sets t (set_place i) zeros) (owner_place i) desk ∙ length-sets t (set_place i) zeros
length-stored (Write new) desk i t = length-sets (sets t (set_place i) new) (count_place i) (word_bytes (suc (slot_of t i).count)) ∙ length-sets t (set_place i) new
length-stored Release desk i t = length-set t (owner_place i) 0

pub length-kept : (act : Act) (desk i : ℕ) (t : List ℕ) → length (call_of act t desk i).table ≡ length t
unfolding call_of finished
length-kept act desk i t = go (first_of (call_checks act desk (usable desk i t) (slot_of t i)))
  where
    go : (w : Result ⊤ Refusal) → length (finished w t (stored act desk i t)).table ≡ length t
    go (Err r) = refl
    go (Ok _) = length-stored act desk i t

-- the answer is told by the checks
pub answer-is : (act : Act) (desk i : ℕ) (t : List ℕ) → (call_of act t desk i).answer ≡ told_by (first_of (call_checks act desk (usable desk i t) (slot_of t i)))
unfolding call_of finished told_by
answer-is act desk i t = go (first_of (call_checks act desk (usable desk i t) (slot_of t i)))
  where
    go : (w : Result ⊤ Refusal) → (finished w t (stored act desk i t)).answer ≡ told_by w
    go (Err r) = refl
    go (Ok _) = refl

-- ---- the slot of a call

module _ (t : List ℕ) (i : ℕ) (p : At t i) where
  abbrev long : length t ≡ table_width
  long = p.long

  abbrev inside : i < 8
  inside = p.inside

  claim_own : (desk : ℕ) → (slot_of t i).count < top → slot_of (stored Claim desk i t) i ≡ slot_done Claim desk (slot_of t i)
  unfolding stored slot_of slot_done
  claim_own desk small =
      let v : ℕ = suc (word_from t (count_place i)) in
      let t1 : List ℕ = sets t (set_place i) zeros in
      let t2 : List ℕ = sets t1 (owner_place i) (desk ∷ []) in
      let l1 : length t1 ≡ table_width = length-sets t (set_place i) zeros ∙ long in
      let l2 : length t2 ≡ table_width = length-sets t1 (owner_place i) (desk ∷ []) ∙ l1 in
      rw (
        part_kept (word_bytes v) t2 (count_place i) (set_place i) 528 0 (inl (omega arith)),
        part_kept (desk ∷ []) t1 (owner_place i) (set_place i) 528 0 (inl (omega arith)),
        part_own zeros t (set_place i) 528 (sym length-zeros) (omega arith),
        byte_kept (word_bytes v) t2 (count_place i) (owner_place i) (inl (omega arith)),
        get_or-set_same t1 (owner_place i) desk 0 (omega arith),
        word-own v t2 (count_place i) (omega arith) (omega arith),
      )

  write_own : (new : List ℕ) (desk : ℕ) → length new ≡ 528 → (slot_of t i).count < top → slot_of (stored (Write new) desk i t) i ≡ slot_done (Write new) desk (slot_of t i)
  unfolding stored slot_of slot_done
  write_own new desk n small =
      let v : ℕ = suc (word_from t (count_place i)) in
      let t1 : List ℕ = sets t (set_place i) new in
      let l1 : length t1 ≡ table_width = length-sets t (set_place i) new ∙ long in
      rw (
        part_kept (word_bytes v) t1 (count_place i) (set_place i) 528 0 (inl (omega arith)),
        part_own new t (set_place i) 528 (sym n) (omega arith),
        byte_kept (word_bytes v) t1 (count_place i) (owner_place i) (inl (omega arith)),
        byte_kept new t (set_place i) (owner_place i) (inr (omega arith)),
        word-own v t1 (count_place i) (omega arith) (omega arith),
      )

  release_own : (desk : ℕ) → slot_of (stored Release desk i t) i ≡ slot_done Release desk (slot_of t i)
  unfolding stored slot_of slot_done
  release_own desk =
      rw (
        part_kept (0 ∷ []) t (owner_place i) (set_place i) 528 0 (inl (omega arith)),
        get_or-set_same t (owner_place i) 0 0 (omega arith),
        word_kept (0 ∷ []) t (owner_place i) (count_place i) (inr (omega arith)),
      )

  stored-own : (act : Act) (desk : ℕ) (u : Bool) → first_of (call_checks act desk u (slot_of t i)) ≡ Ok tt → slot_of (stored act desk i t) i ≡ slot_done act desk (slot_of t i)
  stored-own Claim desk u e = claim_own desk (claim_fine desk u (slot_of t i) e).1
  stored-own (Write new) desk u e = let had = write_fine desk u (slot_of t i) new e in write_own new desk (good-long new had.2) had.1
  stored-own Release desk u e = release_own desk

  -- what becomes of a call's own slot is told by the slot, the act and the desk
  pub own-slot : (act : Act) (desk : ℕ) → slot_of (call_of act t desk i).table i ≡ slot_after act desk (usable desk i t) (slot_of t i)
  unfolding call_of finished slot_by
  own-slot act desk = go (first_of (call_checks act desk (usable desk i t) (slot_of t i))) refl
    where
      go : (w : Result ⊤ Refusal) → first_of (call_checks act desk (usable desk i t) (slot_of t i)) ≡ w → slot_of (finished w t (stored act desk i t)).table i ≡ slot_by w (slot_of t i) (slot_done act desk (slot_of t i))
      go (Err r) e = refl
      go (Ok _) e = stored-own act desk (usable desk i t) e

-- ---- every other slot

-- a call that passes its checks names one of the eight slots
pub fine-usable : (act : Act) (desk j : ℕ) (t : List ℕ) → first_of (call_checks act desk (usable desk j t) (slot_of t j)) ≡ Ok tt → usable desk j t ≡ true
fine-usable Claim desk j t e = (claim_fine desk (usable desk j t) (slot_of t j) e).0.named
fine-usable (Write new) desk j t e = (write_fine desk (usable desk j t) (slot_of t j) new e).0.named
fine-usable Release desk j t e = (release_fine desk (usable desk j t) (slot_of t j) e).named

module _ (t : List ℕ) (i j : ℕ) (hi : i < 8) (hj : j < 8) (other : (i < j) ⊎ (j < i)) where
  stored_other : (act : Act) (desk : ℕ) (u : Bool) → first_of (call_checks act desk u (slot_of t j)) ≡ Ok tt → slot_of (stored act desk j t) i ≡ slot_of t i
  unfolding stored
  stored_other Claim desk u e =
      let v : ℕ = suc (slot_of t j).count in
      let t1 : List ℕ = sets t (set_place j) zeros in
      let t2 : List ℕ = sets t1 (owner_place j) (desk ∷ []) in
      slot_kept (word_bytes v) t2 (count_place j) i (rw (length-word_bytes v) (count_apart i j hi hj other))
      ∙ slot_kept (desk ∷ []) t1 (owner_place j) i (owner_apart i j hi hj other)
      ∙ slot_kept zeros t (set_place j) i (rw length-zeros (set_apart i j hi hj other))
  stored_other (Write new) desk u e =
      let v : ℕ = suc (slot_of t j).count in
      let t1 : List ℕ = sets t (set_place j) new in
      slot_kept (word_bytes v) t1 (count_place j) i (rw (length-word_bytes v) (count_apart i j hi hj other))
      ∙ slot_kept new t (set_place j) i (rw (good-long new (write_fine desk u (slot_of t j) new e).2) (set_apart i j hi hj other))
  stored_other Release desk u e = slot_kept (0 ∷ []) t (owner_place j) i (owner_apart i j hi hj other)

pub unequal : (i j : ℕ) → (i ≡ j → ⊥) → (i < j) ⊎ (j < i)
unequal i j h = go (ltb i j) refl (ltb j i) refl
  where
    go : (a : Bool) → ltb i j ≡ a → (b : Bool) → ltb j i ≡ b → (i < j) ⊎ (j < i)
    go true e b f = inl (ltb-true i j e)
    go false e true f = inr (ltb-true j i f)
    go false e false f = let same : i ≡ j = omega (arith, ltb-false i j e, ltb-false j i f) in absurd (h same)

-- a call leaves every slot but its own as it was
pub other_slot : (act : Act) (desk i j : ℕ) (t : List ℕ) → i < 8 → (i ≡ j → ⊥) → slot_of (call_of act t desk j).table i ≡ slot_of t i
unfolding call_of finished
other_slot act desk i j t hi other = go (first_of (call_checks act desk (usable desk j t) (slot_of t j))) refl
  where
    go : (w : Result ⊤ Refusal) → first_of (call_checks act desk (usable desk j t) (slot_of t j)) ≡ w → slot_of (finished w t (stored act desk j t)).table i ≡ slot_of t i
    go (Err r) e = refl
    go (Ok _) e = stored_other t i j hi (usable_parts desk j t (fine-usable act desk j t e)).0.inside (unequal i j other) act desk (usable desk j t) e
