-- The 21 pixels widened by a square of d are the square of d + 2 without its four corners. Assumes nothing.
use Prim.Native.Nat.{ℕ, ◌+◌, ◌-◌, ◌≤◌, min, max}
use native.Mathlib.Omega.{arith}
use native.Mathlib.Nat.{eq-or-lt_of_le}
use mathlib.Core.Path.{◌≡◌, refl, sym, ◌∙◌}
use mathlib.Core.Bool.{Bool, true, false, not, ◌&&◌, and-false}
use mathlib.Core.Logic.{◌⊎◌, ⊎_elim, inl, inr, ◌↔◌}
use lib.Dec.{eqb}
use borrow.Author.Tests.{eq-eqb, eqb-false, ne_eqb}
use Rattle.float.proofs.Bools.{both, second_false, excluded}
use Rattle.blur.specs.Reach.{off, near, corner, reached, touched}
use Rattle.blur.proofs.ReachLaws.{near-is, is-near, somewhere-none, somewhere_elim, reached_elim, reached_at}
use Rattle.demands.specs.TwoMaps.{of21, clear}
use Rattle.demands.proofs.Ring.{in_middle, by_row, by-col}
use Rattle.demands.proofs.Clear.{clear-is}
use Rattle.raw.specs.Raw.{Between}

-- off by at most n, with no difference
parts : (a b n : ℕ) → off a b ≤ n → (a ≤ b + n) × (b ≤ a + n)
parts a b n h = (omega arith, omega arith)

from_parts : (a b n : ℕ) → a ≤ b + n → b ≤ a + n → off a b ≤ n
from_parts a b n p q = omega arith

-- at most e from a on the way to b
abbrev toward : ℕ → ℕ → ℕ → ℕ
toward e a b = min (a + e) (max (a - e) b)

toward_first : (e a b : ℕ) → off a (toward e a b) ≤ e
toward_first e a b = omega arith

toward_rest : (e d a b : ℕ) → off a b ≤ d + e → off (toward e a b) b ≤ d
toward_rest e d a b h = let p = parts a b (d + e) h in from_parts _ _ d (omega arith) (omega arith)

-- off by at most d + e, where both ways are short
through : (a b c d e : ℕ) → off a b ≤ e → off b c ≤ d → off a c ≤ d + e
through a b c d e h g = let p = parts a b e h in let q = parts b c d g in from_parts a c (d + e) (omega arith) (omega arith)

-- (r, c) is at most d rows and cols off (row, col), and is no corner
abbrev pub wide : ℕ → ℕ → ℕ → ℕ → ℕ → Bool
wide d row col r c = near d row col r c && not (corner d row col r c)

by_sides : (d row col r c : ℕ) → wide (d + 2) row col r c ≡ true → ((off row r ≤ d + 1) × (off col c ≤ d + 2)) ⊎ ((off row r ≤ d + 2) × (off col c ≤ d + 1))
unfolding corner
by_sides d row col r c h =
    let p = both (near (d + 2) row col r c) _ h in
    let q = near-is (d + 2) row col r c p.0 in
    ⊎_elim
    (λ e. let other = eqb-false (off col c) (d + 2) (second_false (eqb (off row r) (d + 2)) (eqb (off col c) (d + 2)) p.1 (eq-eqb (off row r) (d + 2) e)) in
    ⊎_elim (λ f. absurd (other f)) (λ k. inr (q.0, omega arith)) (eq-or-lt_of_le q.1))
    (λ k. inl (omega arith, q.1))
    (eq-or-lt_of_le q.0)

wide-by-row : (d row col r c : ℕ) → off row r ≤ d + 1 → off col c ≤ d + 2 → wide (d + 2) row col r c ≡ true
unfolding corner
wide-by-row d row col r c p q = rw (is-near (d + 2) row col r c (omega arith) q, ne_eqb (off row r) (d + 2) (λ e. omega arith))

wide-by-col : (d row col r c : ℕ) → off row r ≤ d + 2 → off col c ≤ d + 1 → wide (d + 2) row col r c ≡ true
unfolding corner
wide-by-col d row col r c p q =
    rw (is-near (d + 2) row col r c p (omega arith), ne_eqb (off col c) (d + 2) (λ e. omega arith), and-false (eqb (off row r) (d + 2)))

-- A pixel at most d off one of the 21 lies in the square of d + 2, and is none of its corners.
pub in_wide : (d row col r c : ℕ) → Between d row col r c → wide (d + 2) row col r c ≡ true
in_wide d row col r c b =
    let n = near-is d b.row' b.col' r c b.close in
    ⊎_elim
    (λ k. wide-by-row d row col r c (through row b.row' r d 1 k.0 n.0) (through col b.col' c d 2 k.1 n.1))
    (λ k. wide-by-col d row col r c (through row b.row' r d 2 k.0 n.0) (through col b.col' c d 1 k.1 n.1))
    (in_middle row col b.row' b.col' b.on)

-- And each pixel of the square but its corners is at most d off one of the 21.
pub from-wide : (d row col r c : ℕ) → wide (d + 2) row col r c ≡ true → Between d row col r c
from-wide d row col r c h =
    ⊎_elim
    (λ k. record {
      row' = toward 1 row r;
      col' = toward 2 col c;
      on = by_row row col _ _ (toward_first 1 row r) (toward_first 2 col c);
      close = is-near d _ _ r c (toward_rest 1 d row r k.0) (toward_rest 2 d col c k.1);
    })
    (λ k. record {
      row' = toward 2 row r;
      col' = toward 1 col c;
      on = by-col row col _ _ (toward_first 2 row r) (toward_first 1 col c);
      close = is-near d _ _ r c (toward_rest 2 d row r k.0) (toward_rest 1 d col c k.1);
    })
    (by_sides d row col r c h)

-- The two sets are one.
pub dilated : (d row col r c : ℕ) → Between d row col r c ↔ (wide (d + 2) row col r c ≡ true)
dilated d row col r c = (in_wide d row col r c, from-wide d row col r c)

-- ---- the test

module _ (lost : ℕ → ℕ → Bool) (rows cols d row col : ℕ) where
  struck : touched lost rows cols (d + 2) row col ≡ true → clear (reached lost rows cols d) row col ≡ false
  unfolding touched
  struck h =
      somewhere_elim rows cols _ h
      (λ r c hr hc e.
      let p = both (wide (d + 2) row col r c) (lost r c) e in
      let b = from-wide d row col r c p.0 in
      let n = near-is d b.row' b.col' r c b.close in
      excluded (λ t. (clear-is (reached lost rows cols d) row col).0 t b.row' b.col' b.on)
      (reached_at lost rows cols d b.row' b.col' r c hr hc n.0 n.1 p.1))

  unstruck : touched lost rows cols (d + 2) row col ≡ false → clear (reached lost rows cols d) row col ≡ true
  unfolding touched
  unstruck h =
      (clear-is (reached lost rows cols d) row col).1
      (λ row' col' on.
      by_result row' col' on (reached lost rows cols d row' col') refl)
    where
      by_result : (row' col' : ℕ) → of21 row col row' col' ≡ true → (t : Bool) → reached lost rows cols d row' col' ≡ t → t ≡ false
      by_result row' col' on false e = refl
      by_result row' col' on true e =
          reached_elim lost rows cols d row' col' e
          (λ r c hr hc nr nc gone.
          let on-wide = in_wide d row col r c (record { row' = row'; col' = col'; on = on; close = is-near d row' col' r c nr nc }) in
          let z : (wide (d + 2) row col r c && lost r c) ≡ true = rw (on-wide, gone) in
          sym z ∙ somewhere-none rows cols _ h r c hr hc)

  -- None of a pixel's 21 is reached by a lost raw pixel exactly when no lost raw pixel lies in the square of d + 2 around it, its corners left out.
  pub clear-touched : clear (reached lost rows cols d) row col ≡ not (touched lost rows cols (d + 2) row col)
  clear-touched = by_test (touched lost rows cols (d + 2) row col) refl
    where
      by_test : (t : Bool) → touched lost rows cols (d + 2) row col ≡ t → clear (reached lost rows cols d) row col ≡ not t
      by_test true e = struck e
      by_test false e = unstruck e
