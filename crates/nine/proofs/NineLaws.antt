-- The nine places by offsets: level by level they are those place by place, and column by column those around a pixel. Assumes nothing.
use Prim.Native.Nat.{ℕ, ◌+◌, ◌-◌, ◌≤◌}
use native.Mathlib.Nat.{add-zero}
use native.Mathlib.Omega.{arith}
use mathlib.Core.Path.{◌≡◌, refl, ◌∙◌}
use mathlib.Core.List.{List, [], ◌∷◌}
use lib.Ieee.{Float}
use Rattle.fit.specs.Cubic.{◌at◌}
use Rattle.samples.specs.Level.{places_of, nine_of}
use Rattle.samples.specs.Four.{Four, samples_by}
use Rattle.nine.specs.Nine.{three_of, nine_beside, sample_by, down_by, rows_of, level_nine, turned}

pub nine_turned : (l r : Four) (u x y z t : ℕ) (g : List Float) {p q v w : List Float} → p ≡ level_nine l.l0 r.l0 u x y z t (g at 0) → q ≡ level_nine l.l1 r.l1 u x y z t (g at 1)
    → v ≡ level_nine l.l2 r.l2 u x y z t (g at 2) → w ≡ level_nine l.l3 r.l3 u x y z t (g at 3) → turned p q v w ≡ nine_beside (three_of l r u x y z t g) 0
unfolding nine_beside three_of samples_by turned level_nine rows_of down_by sample_by
nine_turned l r u x y z t g ep eq ev ew = rw (ep, eq, ev, ew, add-zero u, add-zero x, add-zero y, add-zero z, add-zero t)

-- the nine places, one by one
nine_by : (samples : ℕ → ℕ → List Float) (row col : ℕ) → 1 ≤ row → nine_of samples row col
    ≡ samples (row - 1) (col + 0 - 1) ∷ samples (row - 1) (col + 1 - 1) ∷ samples (row - 1) (col + 2 - 1)
    ∷ samples row (col + 0 - 1) ∷ samples row (col + 1 - 1) ∷ samples row (col + 2 - 1)
    ∷ samples (row + 1) (col + 0 - 1) ∷ samples (row + 1) (col + 1 - 1) ∷ samples (row + 1) (col + 2 - 1) ∷ []
unfolding places_of
nine_by samples row col h =
    let up : row + 0 - 1 ≡ row - 1 = omega arith in
    let own : row + 1 - 1 ≡ row = omega arith in
    let down : row + 2 - 1 ≡ row + 1 = omega arith in
    rw (up, own, down)

-- three columns that are those around col, from the row b on, have the nine places around the pixel i + 1 rows on
pub nine_beside_lem : (samples l : ℕ → ℕ → List Float) (b col : ℕ) → ((q : ℕ) → l 0 q ≡ samples (b + q) (col + 0 - 1)) → ((q : ℕ) → l 1 q ≡ samples (b + q) (col + 1 - 1))
    → ((q : ℕ) → l 2 q ≡ samples (b + q) (col + 2 - 1)) → (i : ℕ) → nine_of samples (b + i + 1) col ≡ nine_beside l i
unfolding nine_beside
nine_beside_lem samples l b col first second third i =
    let before : b + i + 1 - 1 ≡ b + i = omega arith in
    let own : b + i + 1 ≡ b + (i + 1) = omega arith in
    let after : b + i + 1 + 1 ≡ b + (i + 2) = omega arith in
    nine_by samples (b + i + 1) col (omega arith) ∙ rw (first i, second i, third i, first (i + 1), second (i + 1), third (i + 1), first (i + 2), second (i + 2), third (i + 2), before, after, own) refl
