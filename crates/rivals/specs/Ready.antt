-- What the lines leave of a pixel, and of a part of a column. Definitions only.
use Rattle.std.specs.Prelude.{ℕ, ◌+◌, ◌/◌, ◌%◌, ◌<◌, ◌≡◌, true, false, cond, List, [], eqb, length, get_or, Float}
use Rattle.tables.specs.declared.Set.{Set}
use Rattle.tables.specs.declared.Thresholds.{Thresholds}
use Rattle.fit.specs.Cubic.{◌at◌, coeffs_of}
use Rattle.fit.specs.Band.{sign_of}
use Rattle.columns.specs.Coef.{under_root}
use Rattle.columns.specs.Known.{Known}
use Rattle.columns.specs.Stat.{point_of, height_of, cubic_in}
use Rattle.columns.specs.Gate.{word_of}
use Rattle.rivals.specs.Window.{window_of}

-- of a pixel with the samples l: its cubic k, the points p and q of the two polarities with their values v and u, and its word, by some known root
pub record Ready (s : Set) (th : Thresholds) (l k : List Float) (p v q u : Float) (w : ℕ) : Type 0 where
  pub root : Float
  pub cubic : k ≡ coeffs_of s.scale l
  pub known : Known root (under_root (coeffs_of s.scale l))
  pub low-point : p ≡ point_of (sign_of false) (coeffs_of s.scale l) root
  pub low-height : v ≡ height_of (sign_of false) (coeffs_of s.scale l) root
  pub high-point : q ≡ point_of (sign_of true) (coeffs_of s.scale l) root
  pub high-height : u ≡ height_of (sign_of true) (coeffs_of s.scale l) root
  pub word : w ≡ word_of (window_of th) l p v q u root

-- that of a pixel at place m of the rings
abbrev pub ReadyAt : Set → Thresholds → List Float → List Float → List Float → List Float → List Float → List Float → List Float → List ℕ → ℕ → Type 0
ReadyAt s th l a b c d p v w m = Ready s th l (cubic_in a b c d m) (p at m) (v at m) (p at (780 + m)) (v at (780 + m)) (get_or w m 0)

-- those of the n pixels with the samples l 0, l 1, .., at the places from z on
abbrev pub Slot : Set → Thresholds → (ℕ → List Float) → ℕ → ℕ → List Float → List Float → List Float → List Float → List Float → List Float → List ℕ → Type 0
Slot s th l z n a b c d p v w = (i : ℕ) → i < n → ReadyAt s th (l i) a b c d p v w (z + i)

-- the place of the j-th of the nine around place i + 1 of the slot y
abbrev pub place_of : ℕ → ℕ → ℕ → ℕ → ℕ → ℕ
place_of x y z i j = cond (eqb (j % 3) 0) x (cond (eqb (j % 3) 1) y z) + i + j / 3

-- those of nine pixels with the samples nine, around place i + 1 of the slot y
pub record Around (s : Set) (th : Thresholds) (nine : List (List Float)) (x y z i : ℕ) (a b c d p v : List Float) (w : List ℕ) : Type 0 where
  pub long : length nine ≡ 9
  pub places : (j : ℕ) → j < 9 → ReadyAt s th (get_or nine j []) a b c d p v w (place_of x y z i j)
