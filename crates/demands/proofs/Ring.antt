-- The 21 pixels of a pixel are those that the samples at its nine places read. Assumes nothing.
use Prim.Native.Nat.{ℕ, ◌+◌, ◌-◌, ◌≤◌}
use native.Mathlib.Omega.{arith}
use native.Mathlib.Nat.{eq-or-lt_of_le, eq-zero-or-pos}
use mathlib.Core.Path.{◌≡◌, subst}
use mathlib.Core.Bool.{true, not, ◌&&◌, and-false}
use mathlib.Core.Logic.{◌⊎◌, ⊎_elim, inl, inr}
use lib.Dec.{leb, eqb}
use borrow.Author.Tests.{leb-true, le-leb, eq-eqb, eqb-false, ne_eqb}
use Rattle.float.proofs.Bools.{both, second_false}
use Rattle.demands.specs.TwoMaps.{off, of21, Cross}

-- ---- the 21 by cases

-- one of the 21 is in the middle three rows or in the middle three cols
pub in_middle : (row col r c : ℕ) → of21 row col r c ≡ true → ((off row r ≤ 1) × (off col c ≤ 2)) ⊎ ((off row r ≤ 2) × (off col c ≤ 1))
unfolding of21
in_middle row col r c h =
    let p = both (leb (off row r) 2 && leb (off col c) 2) (not (eqb (off row r) 2 && eqb (off col c) 2)) h in
    let q = both (leb (off row r) 2) (leb (off col c) 2) p.0 in
    let near-row : off row r ≤ 2 = leb-true (off row r) 2 q.0 in
    let near-col : off col c ≤ 2 = leb-true (off col c) 2 q.1 in
    ⊎_elim
    (λ e. let other = eqb-false (off col c) 2 (second_false (eqb (off row r) 2) (eqb (off col c) 2) p.1 (eq-eqb (off row r) 2 e)) in
    ⊎_elim (λ f. absurd (other f)) (λ k. inr (near-row, omega arith)) (eq-or-lt_of_le near-col))
    (λ k. inl (omega arith, near-col))
    (eq-or-lt_of_le near-row)

pub near_both : (row col r c : ℕ) → of21 row col r c ≡ true → (off row r ≤ 2) × (off col c ≤ 2)
near_both row col r c on = ⊎_elim (λ k. (omega arith, k.1)) (λ k. (k.0, omega arith)) (in_middle row col r c on)

pub by_row : (row col r c : ℕ) → off row r ≤ 1 → off col c ≤ 2 → of21 row col r c ≡ true
unfolding of21
by_row row col r c p q = rw (le-leb (off row r) 2 (omega arith), le-leb (off col c) 2 q, ne_eqb (off row r) 2 (λ e. omega arith))

pub by-col : (row col r c : ℕ) → off row r ≤ 2 → off col c ≤ 1 → of21 row col r c ≡ true
unfolding of21
by-col row col r c p q =
    rw (le-leb (off row r) 2 p, le-leb (off col c) 2 (omega arith), ne_eqb (off col c) 2 (λ e. omega arith), and-false (eqb (off row r) 2))

-- two before, at most one off, or two behind
side : (a b : ℕ) → off a b ≤ 2 → (b + 2 ≡ a) ⊎ (off a b ≤ 1) ⊎ (b ≡ a + 2)
side a b h =
    ⊎_elim
    (λ e. ⊎_elim (λ z. inr (inr (omega arith))) (λ k. inl (omega arith)) (eq-zero-or-pos (a - b)))
    (λ k. inr (inl (omega arith)))
    (eq-or-lt_of_le h)

-- ---- the nine crosses

module _ (P : ℕ → ℕ → Type 0) (row col : ℕ) (hr : 2 ≤ row) (hc : 2 ≤ col) where
  moved : {r c r' c' : ℕ} → r ≡ r' → c ≡ c' → P r c → P r' c'
  moved {r} {c} {r'} {c'} e f p = subst (λ (x : ℕ). P r' x) f (subst (λ (x : ℕ). P x c) e p)

  module _ (all : (i j : ℕ) → i ≤ 2 → j ≤ 2 → Cross P (row + i - 1) (col + j - 1)) where
    middle_rows : (r c : ℕ) → off row r ≤ 1 → off col c ≤ 2 → P r c
    middle_rows r c p q =
        ⊎_elim (λ e. moved (omega arith) (omega arith) (all (r + 1 - row) 0 (omega arith) (omega arith)).left)
        (⊎_elim (λ k. moved (omega arith) (omega arith) (all (r + 1 - row) (c + 1 - col) (omega arith) (omega arith)).centre)
        (λ e. moved (omega arith) (omega arith) (all (r + 1 - row) 2 (omega arith) (omega arith)).right))
        (side col c q)

    middle_cols : (r c : ℕ) → off row r ≤ 2 → off col c ≤ 1 → P r c
    middle_cols r c p q =
        ⊎_elim (λ e. moved (omega arith) (omega arith) (all 0 (c + 1 - col) (omega arith) (omega arith)).up)
        (⊎_elim (λ k. moved (omega arith) (omega arith) (all (r + 1 - row) (c + 1 - col) (omega arith) (omega arith)).centre)
        (λ e. moved (omega arith) (omega arith) (all 2 (c + 1 - col) (omega arith) (omega arith)).down))
        (side row r p)

    -- what holds at all five pixels of each of the nine samples holds at the 21
    pub ring : (r c : ℕ) → of21 row col r c ≡ true → P r c
    ring r c on = ⊎_elim (λ k. middle_rows r c k.0 k.1) (λ k. middle_cols r c k.0 k.1) (in_middle row col r c on)

  -- what holds at the 21 holds at all five pixels of each of the nine samples
  pub crosses : ((r c : ℕ) → of21 row col r c ≡ true → P r c) → (i j : ℕ) → i ≤ 2 → j ≤ 2 → Cross P (row + i - 1) (col + j - 1)
  crosses all i j hi hj = record {
    left = all _ _ (by_row row col (row + i - 1) (col + j - 1 - 1) (omega arith) (omega arith));
    right = all _ _ (by_row row col (row + i - 1) (col + j - 1 + 1) (omega arith) (omega arith));
    up = all _ _ (by-col row col (row + i - 1 - 1) (col + j - 1) (omega arith) (omega arith));
    down = all _ _ (by-col row col (row + i - 1 + 1) (col + j - 1) (omega arith) (omega arith));
    centre = all _ _ (by_row row col (row + i - 1) (col + j - 1) (omega arith) (omega arith));
  }
