-- The padding of a line. Assumes nothing.
use Prim.Native.Nat.{ℕ, ◌+◌, ◌-◌, ◌≤◌, ◌<◌}
use native.Mathlib.Omega.{arith}
use mathlib.Core.Path.{◌≡◌, sym, ap, ◌∙◌}
use mathlib.Core.List.{List}
use lib.ListN.{length, get_or}
use lib.Ieee.{Float, nan}
use Rattle.grid.specs.Grid.{list_of, Stored}
use Rattle.grid.proofs.GridLaws.{length_list}
use Rattle.grid.proofs.StoredLaws.{stored-length, stored-before, stored_past, stored-float}
use Rattle.lines.specs.Lines.{line_at, Held, Padding}

pub at_place : (l : List Float) (i j : ℕ) → i ≡ j → get_or l i nan ≡ get_or l j nan
at_place l i j e = ap (λ (k : ℕ). get_or l k nan) e

-- the first float repeated before a line of n floats, and then the last behind it
pub padding : {l l' l'' : List Float} (n : ℕ) → 1 ≤ n → n ≤ 4096 → length l ≡ 4128 → Stored l l' 0 (list_of (λ i. get_or l 16 nan) 16) → Stored l' l'' (16 + n) (list_of (λ i. get_or l (15 + n) nan) 16)
    → Padding l l'' n
padding {l} {l'} {l''} n some most long p q = record {
  padded = record { some = some; most = most; long = stored-length q ∙ stored-length p ∙ long; before = before; behind = behind };
  kept = kept;
}
  where
    first : ℕ → Float
    first i = get_or l 16 nan

    last : ℕ → Float
    last i = get_or l (15 + n) nan

    kept : Held l'' 16 n (line_at l)
    kept i less =
        stored-before q (16 + i) (omega arith) ∙ stored_past p (16 + i) (omega (arith, length_list first 16))

    before : (j : ℕ) → j < 16 → get_or l'' j nan ≡ line_at l'' 0
    before j less =
        stored-before q j (omega arith) ∙ at_place l' j (0 + j) (omega arith) ∙ stored-float {at = 0} first p (omega arith) j less ∙ sym (kept 0 (omega arith))

    behind : (j : ℕ) → j < 16 → line_at l'' (n + j) ≡ line_at l'' (n - 1)
    behind j less =
        at_place l'' (16 + (n + j)) (16 + n + j) (omega arith)
        ∙ stored-float last q (omega (arith, stored-length p)) j less
        ∙ at_place l (15 + n) (16 + (n - 1)) (omega arith)
        ∙ sym (kept (n - 1) (omega arith))
