-- Past the first difference no due record is looked at, and none needs to be. Assumes nothing.
use Prim.Native.Nat.{ℕ, zero, suc, ◌+◌, ◌-◌, ◌≤◌, ◌<◌}
use native.Mathlib.Nat.{eq-or-lt_of_le}
use native.Mathlib.Omega.{arith}
use mathlib.Core.Bool.{Bool, true, false, ◌&&◌}
use mathlib.Core.List.{List, ◌++◌}
use mathlib.Core.Logic.{◌⊎◌, inl, inr}
use mathlib.Core.Path.{◌≡◌, refl, sym, ap, ◌∙◌}
use lib.Dec.{ltb}
use borrow.Author.Tests.{ltb-false}
use Rattle.record.specs.declared.Record.{Record}
use Rattle.samples.specs.Level.{Maps}
use Rattle.detect.specs.Due.{pixel_due, row_due, rows_due}
use Rattle.follow.specs.Follow.{walk_of, is_going}
use Rattle.follow.proofs.WalkLaws.{walk_append, over_stays}
use Rattle.std.specs.declared.ops.ControlFlow.{ControlFlow}
use Rattle.follow.specs.declared.Finding.{Finding}

-- a list that grows by parts: where the walk over k of them ended, the walk over more has ended there too
module _ (b : List ℕ) (w : ControlFlow Finding ℕ) (upto part : ℕ → List Record) (grows : (n : ℕ) → upto (suc n) ≡ upto n ++ part n) (k : ℕ) (over : is_going (walk_of b w (upto k)) ≡ false) where
  next : (n : ℕ) → (k ≡ suc n) ⊎ (k < suc n) → (k ≤ n → walk_of b w (upto n) ≡ walk_of b w (upto k)) → walk_of b w (upto (suc n)) ≡ walk_of b w (upto k)
  next n (inl same) before = ap (λ (u : ℕ). walk_of b w (upto u)) (sym same)
  next n (inr less) before =
      ap (walk_of b w) (grows n) ∙ walk_append b w (upto n) (part n) ∙ ap (λ (v : ControlFlow Finding ℕ). walk_of b v (part n)) (before (omega arith)) ∙ over_stays b (walk_of b w (upto k)) (part n) over

  stays_over : (n : ℕ) → k ≤ n → walk_of b w (upto n) ≡ walk_of b w (upto k)
  stays_over zero h = let z : zero ≡ k = omega arith in ap (λ (u : ℕ). walk_of b w (upto u)) z
  stays_over (suc n) h = next n (eq-or-lt_of_le h) (λ l. stays_over n l)

-- a loop over the parts that ends behind the last one, or where the walk has ended, has the whole walk
ends : (b : List ℕ) (w : ControlFlow Finding ℕ) (upto part : ℕ → List Record) (grows : (n : ℕ) → upto (suc n) ≡ upto n ++ part n) (k n : ℕ) (going : Bool) → k ≤ n - 8 → ltb (k + 8) n && going ≡ false
    → going ≡ is_going (walk_of b w (upto k)) → walk_of b w (upto k) ≡ walk_of b w (upto (n - 8))
ends b w upto part grows k n going h stop is = go (ltb (k + 8) n) refl stop
  where
    go : (more : Bool) → ltb (k + 8) n ≡ more → more && going ≡ false → walk_of b w (upto k) ≡ walk_of b w (upto (n - 8))
    go false e q = let last : k ≡ n - 8 = omega (arith, ltb-false (k + 8) n e) in ap (λ (u : ℕ). walk_of b w (upto u)) last
    go true e q = sym (stays_over b w upto part grows k (sym is ∙ q) (n - 8) h)

module _ (m : Maps) (b : List ℕ) (w : ControlFlow Finding ℕ) where
  -- over the pixels of a row
  pub row_ends : (row k : ℕ) (going : Bool) → k ≤ m.frame.cols - 8 → ltb (k + 8) m.frame.cols && going ≡ false → going ≡ is_going (walk_of b w (row_due m row k))
      → walk_of b w (row_due m row k) ≡ walk_of b w (row_due m row (m.frame.cols - 8))
  unfolding row_due
  row_ends row k going h stop is = ends b w (row_due m row) (λ i. pixel_due m row (i + 4)) (λ i. refl) k m.frame.cols going h stop is

  -- over the rows
  pub rows_end : (k : ℕ) (going : Bool) → k ≤ m.frame.rows - 8 → ltb (k + 8) m.frame.rows && going ≡ false → going ≡ is_going (walk_of b w (rows_due m k))
      → walk_of b w (rows_due m k) ≡ walk_of b w (rows_due m (m.frame.rows - 8))
  unfolding rows_due
  rows_end k going h stop is = ends b w (rows_due m) (λ i. row_due m (i + 4) (m.frame.cols - 8)) (λ i. refl) k m.frame.rows going h stop is
