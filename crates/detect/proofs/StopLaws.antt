-- A taker that is full needs no due record more: it has been given the whole list. Assumes nothing.
use Prim.Native.Nat.{ℕ, zero, suc, ◌+◌, ◌-◌, ◌≤◌, ◌<◌}
use native.Mathlib.Nat.{eq-or-lt_of_le}
use native.Mathlib.Omega.{arith}
use mathlib.Core.Bool.{Bool, true}
use mathlib.Core.List.{List, ◌++◌}
use mathlib.Core.Logic.{◌⊎◌, inl, inr}
use mathlib.Core.Path.{◌≡◌, refl}
use Rattle.record.specs.declared.Record.{Record}
use Rattle.samples.specs.Level.{Maps}
use Rattle.detect.specs.Due.{pixel_due, row_due, rows_due}
use Rattle.detect.specs.Taker.{TakerLaws}

module _ {S : Type 0} {took : S → List Record → S → Type 0} {room : S → ℕ} {is_full : S → Bool} (laws : TakerLaws took room is_full) (s t : S) (stop : is_full t ≡ true) where
  -- a list that grows by parts: what has taken k of them and is full has taken more
  module _ (upto part : ℕ → List Record) (grows : (n : ℕ) → upto (suc n) ≡ upto n ++ part n) (k : ℕ) (so_far : took s (upto k) t) where
    next : (n : ℕ) → (k ≡ suc n) ⊎ (k < suc n) → (k ≤ n → took s (upto n) t) → took s (upto (suc n)) t
    next n (inl same) before = rw (← same) so_far
    next n (inr less) before = rw (grows n) (laws.parts s t t (upto n) (part n) (before (omega arith)) (laws.full_stays t (part n) stop))

    stays : (n : ℕ) → k ≤ n → took s (upto n) t
    stays zero h = let z : k ≡ zero = omega arith in rw (← z) so_far
    stays (suc n) h = next n (eq-or-lt_of_le h) (λ l. stays n l)

  -- over the pixels of a row
  pub row_stays : (m : Maps) (row k n : ℕ) → k ≤ n → took s (row_due m row k) t → took s (row_due m row n) t
  unfolding row_due
  row_stays m row k n h p = stays (row_due m row) (λ i. pixel_due m row (i + 4)) (λ i. refl) k p n h

  -- over the rows
  pub rows_stay : (m : Maps) (k n : ℕ) → k ≤ n → took s (rows_due m k) t → took s (rows_due m n) t
  unfolding rows_due
  rows_stay m k n h p = stays (rows_due m) (λ i. row_due m (i + 4) (m.frame.cols - 8)) (λ i. refl) k p n h
