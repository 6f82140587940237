-- The samples of a column of a level, from the offsets of its own place and of the columns beside it. Definitions only.
use Rattle.std.specs.Prelude.{ℕ, ◌+◌, ◌-◌, ◌≤◌, ◌<◌, ◌≡◌, List, Float, length}
use Rattle.std.specs.Float.{nan}
use Rattle.float.specs.Num.{◌⊕◌, ◌⊖◌, ◌⊗◌, f4}
use Rattle.fit.specs.Cubic.{◌at◌}
use Rattle.grid.specs.declared.Levels.{Levels}
use Rattle.columns.specs.Line.{Written}

-- the stencil around mid, with the columns beside it at left and right, times a squared sigma
unfoldable pub stencil_at : List Float → ℕ → ℕ → ℕ → Float → Float
stencil_at l left mid right square = (l at left ⊕ l at right ⊕ l at (mid - 1) ⊕ l at (mid + 1) ⊖ f4 ⊗ l at mid) ⊗ square

-- n places from each offset on, and those above and below mid, lie in a list of len; the offsets are small
pub record Reach (len left mid right n : ℕ) : Type 0 where
  pub up : 1 ≤ mid
  pub down : mid + n < len
  pub before : left + n ≤ len
  pub after : right + n ≤ len
  pub most : left + mid + right ≤ 50331648

-- they do in each of four levels
abbrev pub Reaches : Levels → ℕ → ℕ → ℕ → ℕ → Type 0
Reaches l left mid right n =
    (Reach (length l.l0.now) left mid right n × Reach (length l.l1.now) left mid right n)
    × (Reach (length l.l2.now) left mid right n × Reach (length l.l3.now) left mid right n)

-- the samples of n places of four levels
pub record Samples (l0 l1 l2 l3 : List Float) (q0 q1 q2 q3 : Float) (left mid right n : ℕ) (a b c d a' b' c' d' : List Float) : Type 0 where
  pub first : Written nan a a' 0 n (λ i x. x ≡ stencil_at l0 (left + i) (mid + i) (right + i) q0)
  pub second : Written nan b b' 0 n (λ i x. x ≡ stencil_at l1 (left + i) (mid + i) (right + i) q1)
  pub third : Written nan c c' 0 n (λ i x. x ≡ stencil_at l2 (left + i) (mid + i) (right + i) q2)
  pub fourth : Written nan d d' 0 n (λ i x. x ≡ stencil_at l3 (left + i) (mid + i) (right + i) q3)
