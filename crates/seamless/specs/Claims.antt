-- The words of the claims about scenes. Definitions only.
use Rattle.std.specs.Prelude.{ℕ, ◌+◌, ◌*◌, ◌≤◌, ◌≡◌, Bool, cond, ◌&&◌, ◌⊎◌, ◌↔◌, eqb, length}
use mathlib.Core.List.{List, [], ◌∷◌, Permᴰ}
use Rattle.pixel.specs.declared.Frame.{Frame}
use Rattle.samples.specs.Level.{Maps}
use Rattle.demands.specs.TwoMaps.{clear}
use Rattle.tile.specs.Numbered.{Numbered}
use Rattle.seamless.specs.Untiled.{Sight, scene_row, scene_col}

-- ---- what is asked of a scene

-- four levels of the scene's size
pub record Long (m : Maps) : Type 0 where
  pub long0 : length m.l0 ≡ m.frame.rows * m.frame.cols
  pub long1 : length m.l1 ≡ m.frame.rows * m.frame.cols
  pub long2 : length m.l2 ≡ m.frame.rows * m.frame.cols
  pub long3 : length m.l3 ≡ m.frame.rows * m.frame.cols

-- sides to 2^24, up to which a whole number is a value of f32
pub record Sides (m : Maps) : Type 0 where
  pub rows-most : m.frame.rows ≤ 16777216
  pub cols-most : m.frame.cols ≤ 16777216

-- ---- two lists that tell the same

-- x is one of the list
unfoldable pub In : {A : Type 0} → A → List A → Type 0
In x [] = ⊥
In x (y ∷ ys) = (x ≡ y) ⊎ In x ys

-- how many of the list pass the test
unfoldable pub count : {A : Type 0} → (A → Bool) → List A → ℕ
count test [] = 0
count test (x ∷ xs) = cond (test x) 1 0 + count test xs

-- it is told of the scene pixel (row, col) at a polarity
unfoldable pub of_pixel : ℕ → ℕ → ℕ → Sight → Bool
of_pixel row col polarity v = eqb v.row row && eqb v.col col && eqb v.polarity polarity

-- two lists tell the same, each thing once: a bijection by scene pixel and polarity
pub record SameOnce (a b : List Sight) : Type 0 where
  -- the one is the other in another order
  pub reordered : Permᴰ a b
  -- so they have the same members
  pub same : (v : Sight) → In v a ↔ In v b
  -- and as many
  pub as_many : length a ≡ length b
  -- of each scene pixel at each polarity at most one stands in the first
  pub once_a : (row col polarity : ℕ) → count (of_pixel row col polarity) a ≤ 1
  -- and at most one in the second
  pub once_b : (row col polarity : ℕ) → count (of_pixel row col polarity) b ≤ 1
  -- so what the first tells of a pixel and polarity the second tells, and nothing else
  pub only : (u v : Sight) → In u a → In v b → u.row ≡ v.row → u.col ≡ v.col → u.polarity ≡ v.polarity → u ≡ v

-- ---- lost pixels

-- those of the list that pass the test, in their order
unfoldable pub keep_if : {A : Type 0} → (A → Bool) → List A → List A
keep_if test [] = []
keep_if test (x ∷ xs) = cond (test x) (x ∷ keep_if test xs) (keep_if test xs)

-- none of the 21 scene pixels of a listed record is lost: they are those of its scene pixel, wherever refinement moves it
unfoldable pub spared_in : ℕ → Frame → (ℕ → ℕ → Bool) → Numbered → Bool
spared_in step f lost p = clear lost (scene_row step f p) (scene_col step f p)
