-- The due list by what the pixels list, and how long it can be.
use Rattle.std.specs.Prelude.{None}
use Prim.Native.Nat.{ℕ, zero, suc, ◌+◌, ◌-◌, ◌*◌, ◌≤◌}
use native.Mathlib.Omega.{arith}
use mathlib.Core.Bool.{Bool}
use mathlib.Core.Path.{◌≡◌, refl, ◌∙◌}
use mathlib.Core.List.{[]}
use lib.ListN.{length, length-append}
use Rattle.pixel.specs.Listed.{both_listed}
use Rattle.pixel.proofs.ListedLaws.{both_short, both_nothing}
use Rattle.samples.specs.Level.{Maps, nine_at}
use Rattle.sweep.specs.Ruled.{verdict_at}
use Rattle.detect.specs.Due.{judge_of, pixel_due, row_due, rows_due}

-- what a pixel of the map lists, from its nine places
pub pixel_both : (m : Maps) (row col : ℕ) → pixel_due m row col ≡ both_listed m.set m.thresholds m.frame (nine_at m row col) row col
unfolding pixel_due judge_of both_listed
pixel_both m row col = refl

-- one on which both verdicts are nothing
pub nothing-listed : (m : Maps) (row col : ℕ) → ((is_max : Bool) → verdict_at m row col is_max ≡ None) → pixel_due m row col ≡ []
nothing-listed m row col h = pixel_both m row col ∙ both_nothing m.set m.thresholds m.frame (nine_at m row col) row col h

-- ---- how long the due list can be

pixel_due-short : (m : Maps) (row col : ℕ) → length (pixel_due m row col) ≤ 2
pixel_due-short m row col = rw (pixel_both m row col) (both_short m.set m.thresholds m.frame (nine_at m row col) row col)

pub row_due-short : (m : Maps) (row n : ℕ) → length (row_due m row n) ≤ 2 * n
unfolding row_due
row_due-short m row zero = omega arith
row_due-short m row (suc n) = omega (arith, length-append (row_due m row n) (pixel_due m row (n + 4)), row_due-short m row n, pixel_due-short m row (n + 4))

pub rows_due-short : (m : Maps) (n : ℕ) → m.frame.cols ≤ 4096 → length (rows_due m n) ≤ 8192 * n
unfolding rows_due
rows_due-short m zero h = omega arith
rows_due-short m (suc n) h =
    omega (arith, length-append (rows_due m n) (row_due m (n + 4) (m.frame.cols - 8)), rows_due-short m n h, row_due-short m (n + 4) (m.frame.cols - 8))
