-- Laws of the join's checks: the first bad record, and what a call that none refuses has.
use Rattle.std.specs.Prelude.{Ok}
use Prim.Native.Nat.{ℕ, zero, suc, ◌+◌, ◌-◌, ◌*◌, ◌/◌, ◌%◌, ◌≤◌, ◌<◌}
use native.Mathlib.Nat.{not-suc-le-zero, le_trans}
use native.Mathlib.Omega.{arith}
use mathlib.Core.Bool.{Bool, true, false, cond}
use mathlib.Core.List.{List}
use mathlib.Core.Path.{◌≡◌, refl}
use lib.Dec.{ltb, eqb}
use lib.ListN.{length}
use borrow.Author.Tests.{ltb-true, ltb-false, eqb-true, not-false}
use Rattle.tables.specs.Set.{good}
use Rattle.tables.specs.declared.Set.{Set}
use Rattle.record.specs.Readable.{readable}
use Rattle.sized.proofs.HomeLaws.{home_placed}
use Rattle.join.specs.Forms.{width_of, sized_width_of, record_in}
use Rattle.join.specs.Join.{first_bad, bad_of, join_checks, Writable}
use Rattle.tables.specs.Refusal.{first_of}
use Rattle.tables.proofs.RefusalLaws.{unless-fine, sides_most}

-- ---- the first bad record

module _ (old : Bool) (rows cols : ℕ) (b : List ℕ) where
  -- the i-th record is readable
  abbrev fair : ℕ → Bool
  fair i = readable rows cols (record_in old b i)

  -- the first bad one of n from the i-th on
  abbrev bad : ℕ → ℕ → ℕ
  bad n i = first_bad old rows cols b n i

  -- the search starts with all records left, and goes by turns
  pub bad-start : (n : ℕ) → bad n 0 ≡ bad (n - 0) 0
  bad-start n = let all : n - 0 ≡ n = omega arith in rw all

  pub bad-here : (n i : ℕ) → 0 < n → fair i ≡ false → bad n i ≡ i
  unfolding first_bad
  bad-here zero i h e = absurd (not-suc-le-zero h)
  bad-here (suc n) i h e = rw e

  pub bad_further : (n i : ℕ) → i < n → fair i ≡ true → bad (n - i) i ≡ bad (n - (i + 1)) (i + 1)
  unfolding first_bad
  bad_further n i h e =
      let left : n - i ≡ suc (n - (i + 1)) = omega arith in
      let next : i + 1 ≡ suc i = omega arith in
      rw (left, e, next)

  pub bad_end : (n i : ℕ) → n ≤ i → bad (n - i) i ≡ i
  unfolding first_bad
  bad_end n i h = let none : n - i ≡ 0 = omega arith in rw none

  -- the records before it are readable
  pub fair_before : (n i k : ℕ) → i ≤ k → k < bad n i → fair k ≡ true
  unfolding first_bad
  fair_before zero i k l h = let z : ⊥ = omega arith in absurd z
  fair_before (suc n) i k l h = go (fair i) refl h (ltb i k) refl (λ after g. fair_before n (suc i) k after g)
    where
      go : (t : Bool) → fair i ≡ t → k < cond t (bad n (suc i)) i → (u : Bool) → ltb i k ≡ u → (i < k → k < bad n (suc i) → fair k ≡ true) → fair k ≡ true
      go false e g u p further = let z : ⊥ = omega arith in absurd z
      go true e g true p further = further (ltb-true i k p) g
      go true e g false p further = let same : k ≡ i = omega (arith, ltb-false i k p) in rw same e

  -- and it is not, where it is one of them
  pub bad_unfair : (n i : ℕ) → bad n i < i + n → fair (bad n i) ≡ false
  unfolding first_bad
  bad_unfair zero i h = let z : ⊥ = omega arith in absurd z
  bad_unfair (suc n) i h = go (fair i) refl h (bad_unfair n (suc i))
    where
      go : (t : Bool) → fair i ≡ t → cond t (bad n (suc i)) i < i + suc n → (bad n (suc i) < suc i + n → fair (bad n (suc i)) ≡ false)
          → fair (cond t (bad n (suc i)) i) ≡ false
      go false e g further = e
      go true e g further = further (omega arith)

-- ---- what no check refuses

-- each thing that such a call has
pub record Passed (old : Bool) (s : Set) (rows cols : ℕ) (b : List ℕ) (room : ℕ) : Type 0 where
  pub rows-most : rows ≤ 4096
  pub cols-most : cols ≤ 4096
  pub set-good : good s ≡ true
  pub long : length b ≡ length b / width_of old * width_of old
  pub fair : (i : ℕ) → i < length b / width_of old → readable rows cols (record_in old b i) ≡ true
  pub room-enough : length b / width_of old * sized_width_of old ≤ room

whole_records : (old : Bool) (n : ℕ) → n % width_of old ≡ 0 → n ≡ n / width_of old * width_of old
whole_records true n h = omega arith
whole_records false n h = omega arith

module _ (old : Bool) (s : Set) (rows cols : ℕ) (b : List ℕ) (room : ℕ) where
  pub checks_passed : first_of (join_checks old s rows cols b room) ≡ Ok tt → Passed old s rows cols b room
  unfolding join_checks first_of
  checks_passed h =
      let sides = unless-fine _ _ _ h in
      let set = unless-fine _ _ _ sides.1 in
      let whole = unless-fine _ _ _ set.1 in
      let none-bad = unless-fine _ _ _ whole.1 in
      let buffer = unless-fine _ _ _ none-bad.1 in
      let most = sides_most rows cols sides.0 in
      let all : length b / width_of old ≤ bad_of old rows cols b = ltb-false _ _ none-bad.0 in
      record {
        rows-most = most.0;
        cols-most = most.1;
        set-good = not-false (good s) set.0;
        long = whole_records old (length b) (eqb-true _ _ (not-false (eqb (length b % width_of old) 0) whole.0));
        fair = λ i less. fair_before old rows cols b (length b / width_of old) 0 i (omega arith) (le_trans less all);
        room-enough = ltb-false _ _ buffer.0;
      }

  -- what no check refuses can be written
  pub passed_writable : Passed old s rows cols b room → Writable old b room
  passed_writable p =
      record { placed = λ i less. home_placed rows cols _ p.rows-most p.cols-most (p.fair i less); enough = p.room-enough }
