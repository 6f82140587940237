-- How many records a column can list, and when one is judged. Assumes nothing.
use Prim.Native.Nat.{ℕ, zero, suc, ◌+◌, ◌-◌, ◌*◌, ◌≤◌, ◌<◌}
use native.Mathlib.Omega.{arith}
use mathlib.Core.Path.{◌≡◌, refl}
use mathlib.Core.Bool.{Bool, true, false, cond}
use mathlib.Core.List.{List, []}
use lib.Dec.{leb, ltb}
use lib.ListN.{length, length-append}
use borrow.Author.Tests.{leb-true, ltb-true}
use Rattle.float.proofs.Bools.{both}
use Rattle.record.specs.declared.Record.{Record}
use Rattle.pixel.proofs.ListedLaws.{both_short}
use Rattle.ring.specs.declared.State.{State}
use Rattle.ring.specs.Lent.{height_of}
use Rattle.samples.specs.Four.{Four}
use Rattle.ring.specs.Ring.{frame_of, nine_fed, pixel_spots, column_spots, judges, judged_spots}

module _ (s : State) (ring given : Four) where
  pub pixel_short : (row col : ℕ) → length (pixel_spots s ring given row col) ≤ 2
  unfolding pixel_spots
  pixel_short row col = both_short s.set s.thresholds (frame_of s) (nine_fed s ring given row col) row col

  pub column_short : (col n : ℕ) → length (column_spots s ring given col n) ≤ 2 * n
  unfolding column_spots
  column_short col zero = omega arith
  column_short col (suc n) = omega (arith, length-append (column_spots s ring given col n) (pixel_spots s ring given (n + 4) col), column_short col n, pixel_short (n + 4) col)

  chosen_short : (b : Bool) (rs : List Record) (n : ℕ) → length rs ≤ n → length (cond b rs []) ≤ n
  chosen_short true rs n h = h
  chosen_short false rs n h = omega arith

  pub judged-short : length (judged_spots s ring given) ≤ 2 * s.rows
  unfolding judged_spots
  judged-short = chosen_short (judges s) _ _ (omega (arith, column_short (s.position - 2) (s.rows - 8)))

-- a call that judges a column has the room for it on both sides
pub judging : (s : State) → judges s ≡ true → (6 ≤ s.position) × (s.position + 2 < s.cols)
unfolding judges
judging s h = let p = both (leb 6 s.position) (ltb (s.position + 2) s.cols) h in (leb-true 6 s.position p.0, ltb-true (s.position + 2) s.cols p.1)

-- ---- the judged column by its height

-- a column of which a pixel is judged is one with room on both sides
pub height-some : (s : State) (i : ℕ) → i < height_of s → (6 ≤ s.position) × (s.position + 2 < s.cols) × (i + 8 < s.rows)
unfolding height_of
height-some s i = go (judges s) refl
  where
    go : (b : Bool) → judges s ≡ b → i < cond b (s.rows - 8) 0 → (6 ≤ s.position) × (s.position + 2 < s.cols) × (i + 8 < s.rows)
    go true e h = let p = judging s e in (p.0, p.1, omega arith)
    go false e h = let z : ⊥ = omega arith in absurd z

pub height-most : (s : State) → height_of s ≤ s.rows
unfolding height_of
height-most s = go (judges s)
  where
    go : (b : Bool) → cond b (s.rows - 8) 0 ≤ s.rows
    go true = omega arith
    go false = omega arith

-- what the call lists
pub judged-height : (s : State) (ring given : Four) → judged_spots s ring given ≡ column_spots s ring given (s.position - 2) (height_of s)
unfolding judged_spots height_of column_spots
judged-height s ring given = go (judges s)
  where
    go : (b : Bool) → cond b (column_spots s ring given (s.position - 2) (s.rows - 8)) [] ≡ column_spots s ring given (s.position - 2) (cond b (s.rows - 8) 0)
    go true = refl
    go false = refl
