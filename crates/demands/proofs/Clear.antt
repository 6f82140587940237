-- The test that none of the 21 pixels is lost tells just that. Assumes nothing.
use Prim.Native.Nat.{ℕ, zero, suc, ◌+◌, ◌-◌, ◌*◌, ◌/◌, ◌%◌, ◌≤◌, ◌<◌}
use native.Mathlib.Omega.{arith}
use native.Mathlib.Nat.{eq-or-lt_of_le}
use mathlib.Core.Path.{◌≡◌, refl}
use mathlib.Core.Bool.{Bool, true, false}
use mathlib.Core.Logic.{◌↔◌, ⊎_elim}
use lib.Arith.{digits_lt, digits_div, digits_mod}
use Rattle.demands.specs.TwoMaps.{off, of21, clear_to, clear}
use Rattle.float.proofs.Bools.{both, not_both, second_false}
use Rattle.demands.proofs.Ring.{near_both}

-- the place of b among the five around a
there_again : (a b : ℕ) → off a b ≤ 2 → (a + (b + 2 - a) - 2 ≡ b) × (b + 2 - a < 5)
there_again a b h = (omega arith, omega arith)

module _ (lost : ℕ → ℕ → Bool) (row col : ℕ) where
  clear_at : (n : ℕ) → clear_to lost row col n ≡ true → (k : ℕ) → k < n → of21 row col (row + k / 5 - 2) (col + k % 5 - 2) ≡ true
      → lost (row + k / 5 - 2) (col + k % 5 - 2) ≡ false
  unfolding clear_to
  clear_at zero t k h on = let z : ⊥ = omega arith in absurd z
  clear_at (suc n) t k h on =
      let p = both (clear_to lost row col n) _ t in
      let last : k ≤ n = omega arith in
      ⊎_elim (λ e. rw e (second_false (of21 row col (row + n / 5 - 2) (col + n % 5 - 2)) _ p.1 (rw e at on)))
      (λ q. clear_at n p.0 k q on)
      (eq-or-lt_of_le last)

  clear-to : ((r c : ℕ) → of21 row col r c ≡ true → lost r c ≡ false) → (n : ℕ) → clear_to lost row col n ≡ true
  unfolding clear_to
  clear-to all zero = refl
  clear-to all (suc n) =
      rw (clear-to all n) (not_both (of21 row col (row + n / 5 - 2) (col + n % 5 - 2)) _ (all (row + n / 5 - 2) (col + n % 5 - 2)))

  clear-here : clear lost row col ≡ true → (r c : ℕ) → of21 row col r c ≡ true → lost r c ≡ false
  clear-here t r c on =
      let near = near_both row col r c on in
      let in_row = there_again row r near.0 in
      let in-col = there_again col c near.1 in
      let five : c + 2 - col < 5 = in-col.1 in
      let row_is : row + ((r + 2 - row) * 5 + (c + 2 - col)) / 5 - 2 ≡ r = rw (digits_div (r + 2 - row) five) in_row.0 in
      let col-is : col + ((r + 2 - row) * 5 + (c + 2 - col)) % 5 - 2 ≡ c = rw (digits_mod (r + 2 - row) five) in-col.0 in
      let at_place = clear_at _ t ((r + 2 - row) * 5 + (c + 2 - col)) (digits_lt in_row.1 five) in
      (rw (row_is, col-is) at at_place) on

  -- The test passes exactly when none of the 21 pixels is lost.
  pub clear-is : clear lost row col ≡ true ↔ ((r c : ℕ) → of21 row col r c ≡ true → lost r c ≡ false)
  clear-is = (clear-here, λ all. clear-to all _)
