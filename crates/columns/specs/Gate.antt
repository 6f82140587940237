-- The words of a line: which pixels may pass their own gates. Definitions only.
use Rattle.std.specs.Prelude.{ℕ, ◌+◌, ◌≤◌, ◌<◌, ◌≡◌, Bool, true, false, cond, ◌&&◌, ◌||◌, List, [], ◌∷◌, Float}
use Rattle.std.specs.Float.Ieee.{lt, le}
use Rattle.float.specs.Num.{f0}
use Rattle.fit.specs.Cubic.{◌at◌}
use Rattle.fit.specs.Owned.{owned_by}
use Rattle.columns.specs.Line.{Written}
use Rattle.columns.specs.declared.Window.{Window}

-- the point p lies in the window, and its value v, with the polarity's sign, is above the threshold
unfoldable pub pass_of : Window → Float → Float → Bool
pass_of g p v = le g.low p && le p g.high && lt g.peak v

-- from the samples l, the points p and q of the two polarities with their values v and u, and the root: 1 for a minimum, 2 for a maximum, 4 for what is not known
unfoldable pub word_of : Window → List Float → Float → Float → Float → Float → Float → ℕ
word_of g l p v q u root =
    cond (owned_by l false && pass_of g p v) 1 0 + cond (owned_by l true && pass_of g q u) 2 0 + cond ((owned_by l false || owned_by l true) && (lt root f0 || g.wild)) 4 0

-- the word at place i
abbrev pub word_at : Window → List Float → List Float → List Float → List Float → List Float → List Float → List Float → ℕ → ℕ → ℕ
word_at g s0 s1 s2 s3 r p v z i =
    word_of g (s0 at i ∷ s1 at i ∷ s2 at i ∷ s3 at i ∷ []) (p at (z + i)) (v at (z + i)) (p at (780 + z + i)) (v at (780 + z + i)) (r at i)

-- n words written from z on, none of which exceeds most
pub record Words (g : Window) (s0 s1 s2 s3 r p v : List Float) (z n : ℕ) (w w' : List ℕ) (most : ℕ) : Type 0 where
  pub words : Written 0 w w' z n (λ i x. x ≡ word_at g s0 s1 s2 s3 r p v z i)
  pub under : (i : ℕ) → i < n → word_at g s0 s1 s2 s3 r p v z i ≤ most
