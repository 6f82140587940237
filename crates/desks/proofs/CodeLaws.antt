-- What is left of each function's proof, over plain values. Assumes nothing.
use Rattle.std.specs.Prelude.{Result, Ok, Err, ⊤, is_ok}
use Prim.Native.Nat.{ℕ, ◌+◌, ◌-◌, ◌*◌, ◌≤◌, ◌<◌}
use native.Mathlib.Numerals.{add-one}
use native.Mathlib.Omega.{arith}
use mathlib.Core.Bool.{Bool, true, false, ◌&&◌}
use mathlib.Core.Path.{◌≡◌, refl, sym, ap, ◌∙◌}
use mathlib.Core.List.{List}
use lib.Dec.{eqb, leb}
use lib.ListN.{length, take, drop, set}
use lib.Seq.{sets, take_all}
use borrow.Author.Tests.{eq-eqb, ne_eqb, le-ltb, lt-ltb}
use Rattle.words.specs.Words.{word_bytes}
use Rattle.tables.specs.declared.Refusal.{Refusal}
use Rattle.tables.specs.declared.Refusal.TheVariants.{Count, BadSet}
use Rattle.tables.specs.Refusal.{first_of, unless, read_set_of, refused_set}
use Rattle.tables.specs.Set.{good_record}
use Rattle.tables.proofs.SetLaws.{good-record_read, bad-record-refused}
use Rattle.desks.specs.Table.{table_width, owner_place, slot_of, Slot, a_desk, runnable}
use Rattle.desks.specs.Desks.{Act, Claim, Write, Release, usable, needed, top, call_checks, zeros, stored, outcome, finished, call_of}
use Rattle.desks.proofs.CallLaws.{length-zeros}

-- ---- what is read

pub part_record : (t : List ℕ) (at : ℕ) → take (at + 528 - at) (drop at t) ≡ take 528 (drop at t)
part_record t at = let w : at + 528 - at ≡ 528 = omega arith in rw w

-- the reader finds a record fine exactly where it is good
pub read-good : (b : List ℕ) → is_ok (read_set_of b) ≡ good_record b
unfolding refused_set
read-good b = go (good_record b) refl
  where
    go : (t : Bool) → good_record b ≡ t → is_ok (read_set_of b) ≡ good_record b
    go true t = rw (good-record_read b t) (sym t)
    go false t = rw (bad-record-refused b t) (sym t)

module _ (t : List ℕ) (i : ℕ) where
  pub wrong_length : (length t ≡ table_width → ⊥) → runnable t i ≡ false
  unfolding runnable
  wrong_length h = rw (ne_eqb (length t) table_width h)

  pub past_slots : length t ≡ table_width → 8 ≤ i → runnable t i ≡ false
  unfolding runnable
  past_slots h g = rw (eq-eqb (length t) table_width h, le-ltb i 8 g)

  pub by-owner : (o : ℕ) → length t ≡ table_width → i < 8 → o ≡ (slot_of t i).owner → a_desk o ≡ runnable t i
  unfolding runnable
  by-owner o h g e = rw (eq-eqb (length t) table_width h, lt-ltb i 8 g, e)

-- ---- the checks

module _ (desk : ℕ) (u : Bool) (s : Slot) where
  pub claim_full : (u && eqb s.owner (needed Claim desk)) ≡ true → leb top s.count ≡ true → first_of (call_checks Claim desk u s) ≡ Err Count
  unfolding call_checks first_of unless
  claim_full e f = rw (e, f)

  pub claim_passes : (u && eqb s.owner (needed Claim desk)) ≡ true → leb top s.count ≡ false → first_of (call_checks Claim desk u s) ≡ Ok tt
  unfolding call_checks first_of unless
  claim_passes e f = rw (e, f)

  pub write_full : (new : List ℕ) → (u && eqb s.owner (needed (Write new) desk)) ≡ true → leb top s.count ≡ true → first_of (call_checks (Write new) desk u s) ≡ Err Count
  unfolding call_checks first_of unless
  write_full new e f = rw (e, f)

  pub write_bad : (new : List ℕ) → (u && eqb s.owner (needed (Write new) desk)) ≡ true → leb top s.count ≡ false → good_record new ≡ false → first_of (call_checks (Write new) desk u s) ≡ Err BadSet
  unfolding call_checks first_of unless
  write_bad new e f g = rw (e, f, g)

  pub write_passes : (new : List ℕ) → (u && eqb s.owner (needed (Write new) desk)) ≡ true → leb top s.count ≡ false → good_record new ≡ true → first_of (call_checks (Write new) desk u s) ≡ Ok tt
  unfolding call_checks first_of unless
  write_passes new e f g = rw (e, f, g)

  pub release_passes : (u && eqb s.owner (needed Release desk)) ≡ true → first_of (call_checks Release desk u s) ≡ Ok tt
  unfolding call_checks first_of unless
  release_passes e = rw e

-- ---- a call

module _ (act : Act) (t : List ℕ) (desk i : ℕ) where
  pub refused-with : (w : Result ⊤ Refusal) (r : Refusal) → w ≡ first_of (call_checks act desk (usable desk i t) (slot_of t i)) → w ≡ Err r → outcome (Err r) t ≡ call_of act t desk i
  unfolding call_of finished
  refused-with w r e f = rw (← e, f)

  pub done-with : (w : Result ⊤ Refusal) (t' : List ℕ) → w ≡ first_of (call_checks act desk (usable desk i t) (slot_of t i)) → w ≡ Ok tt → t' ≡ stored act desk i t → outcome (Ok tt) t' ≡ call_of act t desk i
  unfolding call_of finished
  done-with w t' e f t-is = rw (← e, f, t-is)

-- what a write stores does not name the desk
pub write_any : (new : List ℕ) (d e i : ℕ) (t : List ℕ) → stored (Write new) d i t ≡ stored (Write new) e i t
unfolding stored
write_any new d e i t = refl

pub release_part : (desk i : ℕ) (t : List ℕ) → set t (owner_place i) 0 ≡ stored Release desk i t
unfolding stored
release_part desk i t = refl

-- ---- what is stored, part by part

pub claim_parts : (t t1 t3 : List ℕ) (desk i n : ℕ) → n ≡ (slot_of t i).count → t1 ≡ sets t (i * 528) (take 528 zeros) → t3 ≡ sets (set t1 (4224 + i) desk) (4232 + i * 4) (word_bytes (n + 1)) → t3 ≡ stored Claim desk i t
unfolding stored
claim_parts t t1 t3 desk i n n-is first last = rw (last, first, n-is, add-one, take_all 528 zeros (omega (arith, length-zeros)))

pub write_parts : (t t1 t3 new : List ℕ) (i n : ℕ) → length new ≡ 528 → n ≡ (slot_of t i).count → t1 ≡ sets t (i * 528) (take 528 new) → t3 ≡ sets t1 (4232 + i * 4) (word_bytes (n + 1)) → t3 ≡ stored (Write new) 0 i t
unfolding stored
write_parts t t1 t3 new i n long n-is first last = rw (last, first, n-is, add-one, take_all 528 new (omega arith))
