-- Laws of the search: it finds a slot that the test holds of, and no earlier one; and it is the library's. Assumes nothing.
use Prim.Native.Nat.{ℕ, zero, suc, ◌+◌, ◌≤◌, ◌<◌}
use native.Mathlib.Nat.{not-suc-le-zero, le_of_suc-le-suc}
use native.Mathlib.Omega.{arith}
use mathlib.Core.Bool.{Bool, true, false, cond}
use mathlib.Core.Path.{◌≡◌, refl, ap}
use mathlib.Core.List.{List, [], ◌∷◌}
use lib.Dec.{ltb}
use lib.ListN.{length, get_or, take, drop}
use Rattle.std.proofs.Common.{Option, Some, None, unwrap_or}
use Rattle.std.specs.List.{position_or_len}
use Rattle.std.specs.Simd.{first_chunks}
use Rattle.std.proofs.lemmas.Bool.Decides.{nat_tests}
use Rattle.std.proofs.lemmas.List.Recursion.{is_position_or_len}
use Rattle.record.specs.Layout.{spot_width}
use Rattle.store_slots.specs.Slots.{slots_from, first_where}

module _ (test : List ℕ → Bool) where
  -- ---- what it finds

  -- the test holds of the slot found, where it is one of them
  pub where_holds : (ss : List (List ℕ)) (d : List ℕ) → first_where test ss < length ss → test (get_or ss (first_where test ss) d) ≡ true
  unfolding first_where
  where_holds [] d h = absurd (not-suc-le-zero h)
  where_holds (s ∷ ss) d h = go (test s) refl h (λ l. where_holds ss d l)
    where
      go : (t : Bool) → test s ≡ t → cond t 0 (suc (first_where test ss)) < suc (length ss) → (first_where test ss < length ss → test (get_or ss (first_where test ss) d) ≡ true)
          → test (get_or (s ∷ ss) (cond t 0 (suc (first_where test ss))) d) ≡ true
      go true e l further = e
      go false e l further = further (le_of_suc-le-suc l)

  -- and of no earlier one
  pub where_first : (ss : List (List ℕ)) (d : List ℕ) (k : ℕ) → k < first_where test ss → test (get_or ss k d) ≡ false
  unfolding first_where
  where_first [] d k h = absurd (not-suc-le-zero h)
  where_first (s ∷ ss) d k h = go (test s) refl k h (λ j l. where_first ss d j l)
    where
      go : (t : Bool) → test s ≡ t → (k : ℕ) → k < cond t 0 (suc (first_where test ss)) → ((j : ℕ) → j < first_where test ss → test (get_or ss j d) ≡ false)
          → test (get_or (s ∷ ss) k d) ≡ false
      go true e k l further = absurd (not-suc-le-zero l)
      go false e zero l further = e
      go false e (suc k) l further = further k (le_of_suc-le-suc l)

  -- a slot that the test holds of, with none before it that it holds of, is found
  pub where_is : (ss : List (List ℕ)) (d : List ℕ) (i : ℕ) → i < length ss → test (get_or ss i d) ≡ true → ((k : ℕ) → k < i → test (get_or ss k d) ≡ false) → first_where test ss ≡ i
  unfolding first_where
  where_is [] d i h e before = absurd (not-suc-le-zero h)
  where_is (s ∷ ss) d zero h e before = rw e
  where_is (s ∷ ss) d (suc i) h e before = rw (before 0 (omega arith)) (ap suc (where_is ss d i (le_of_suc-le-suc h) e (λ k less. before (suc k) (omega arith))))

  -- none is found where the test holds of none
  pub where_none : (ss : List (List ℕ)) (d : List ℕ) → ((k : ℕ) → k < length ss → test (get_or ss k d) ≡ false) → first_where test ss ≡ length ss
  unfolding first_where
  where_none [] d h = refl
  where_none (s ∷ ss) d h = rw (h 0 (omega arith)) (ap suc (where_none ss d (λ k less. h (suc k) (omega arith))))

  -- ---- it is the library's search

  where_most : (ss : List (List ℕ)) → first_where test ss ≤ length ss
  unfolding first_where
  where_most [] = omega arith
  where_most (s ∷ ss) = go (test s) (where_most ss)
    where
      go : (t : Bool) → first_where test ss ≤ length ss → cond t 0 (suc (first_where test ss)) ≤ suc (length ss)
      go true l = omega arith
      go false l = omega arith

  where_position : (ss : List (List ℕ)) → first_where test ss ≡ position_or_len test ss
  unfolding first_where
  where_position = is_position_or_len (first_where test) test refl (λ s ss. let e : 1 + first_where test ss ≡ suc (first_where test ss) = omega arith in rw e)

  -- of a place found, or none, with their number in its stead
  pub where_found : (ss : List (List ℕ)) (r : Option ℕ) → r ≡ cond (ltb (position_or_len test ss) (length ss)) (Some (position_or_len test ss)) None → unwrap_or r (length ss) ≡ first_where test ss
  where_found ss r e = rw (e, ← where_position ss) (go (first_where test ss) (where_most ss))
    where
      go : (p : ℕ) → p ≤ length ss → unwrap_or (cond (ltb p (length ss)) (Some p) None) (length ss) ≡ p
      go p h = grind (arith, nat_tests)

-- and the slots of a buffer are the library's chunks of it
pub slots_chunks : (n : ℕ) (b : List ℕ) → slots_from n b ≡ first_chunks spot_width n b
unfolding slots_from
slots_chunks zero b = refl
slots_chunks (suc n) b = ap (λ (r : List (List ℕ)). take spot_width b ∷ r) (slots_chunks n (drop spot_width b))
