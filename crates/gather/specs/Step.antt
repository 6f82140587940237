-- Four places of a column at once, step by step. Definitions only.
use Rattle.std.specs.Prelude.{ℕ, ◌+◌, ◌%◌, ◌≤◌, ◌<◌, ◌≡◌, ◌⊎◌, List, [], ◌∷◌, length, get_or, Float}
use Rattle.std.specs.Float.{nan}
use Rattle.float.specs.Num.{◌⊕◌}
use Rattle.fit.specs.Cubic.{◌at◌, row_of, coeffs_of}
use Rattle.columns.specs.Line.{Written}
use Rattle.nine.specs.Nine.{stencil_by}
use Rattle.columns.specs.Stat.{cubic_in}
use Rattle.gather.specs.Gather.{Long}

-- the first four of a list are f 0 to f 3
abbrev pub Each : List Float → (ℕ → Float) → Type 0
Each x f = (q : ℕ) → q < 4 → x at q ≡ f q

-- the coefficients that the table t makes of four places' differences, and of their last samples s, written from m on
pub record Rows (t d0 d1 d2 s : List Float) (m : ℕ) (a b c d a' b' c' d' : List Float) : Type 0 where
  pub first : Written nan a a' m 4 (λ q x. x ≡ row_of t 0 (d0 at q) (d1 at q) (d2 at q))
  pub second : Written nan b b' m 4 (λ q x. x ≡ row_of t 3 (d0 at q) (d1 at q) (d2 at q))
  pub third : Written nan c c' m 4 (λ q x. x ≡ row_of t 6 (d0 at q) (d1 at q) (d2 at q))
  pub fourth : Written nan d d' m 4 (λ q x. x ≡ row_of t 9 (d0 at q) (d1 at q) (d2 at q) ⊕ s at q)

-- the cubics that the table t makes of the samples f at the four places from the h-th on lie from place z + h on; all others are as they were
pub record Put (t : List Float) (f : ℕ → List Float) (z h : ℕ) (a b c d a' b' c' d' : List Float) : Type 0 where
  pub here : (q : ℕ) → q < 4 → cubic_in a' b' c' d' (z + h + q) ≡ coeffs_of t (f (h + q))
  pub same : (i : ℕ) → (i < z + h) ⊎ (z + h + 4 ≤ i) → cubic_in a' b' c' d' i ≡ cubic_in a b c d i
  pub long : Long a' b' c' d'

-- they are put for an h below n; for any other the rings are as they were
pub data Tried (t : List Float) (f : ℕ → List Float) (z n h : ℕ) (a b c d a' b' c' d' : List Float) : Type 0 where
  done : h < n → Put t f z h a b c d a' b' c' d' → Tried t f z n h a b c d a' b' c' d'
  passed : n ≤ h → a' ≡ a → b' ≡ b → c' ≡ c → d' ≡ d → Tried t f z n h a b c d a' b' c' d'

-- ---- the samples, a level at a time

-- a level's sample at the i-th place from the offsets on
abbrev pub sample_from : List Float → List Float → ℕ → ℕ → ℕ → Float → ℕ → Float
sample_from l r left mid right square i = stencil_by l r (left + i) (mid + i) (right + i) square

-- a place of the line that holds f's value keeps it, and those from h to h + 3 hold it if h is below n
pub record Lined (f : ℕ → Float) (n h : ℕ) (s s' : List Float) : Type 0 where
  pub kept : (i : ℕ) → s at i ≡ f i → s' at i ≡ f i
  pub here : h < n → (q : ℕ) → q < 4 → s' at (h + q) ≡ f (h + q)
  pub long : length s' ≡ 260

-- for each of the first k codes whose pixel is one of the first n the line holds f's values at the four places from its own on
pub record Sampled (f : ℕ → Float) (n k : ℕ) (codes : List ℕ) (s : List Float) : Type 0 where
  pub here : (j : ℕ) → j < k → get_or codes j 0 % 780 < n → (q : ℕ) → q < 4 → s at (get_or codes j 0 % 780 + q) ≡ f (get_or codes j 0 % 780 + q)
  pub long : length s ≡ 260

-- four lines of 260
pub record Lines (s0 s1 s2 s3 : List Float) : Type 0 where
  pub first : length s0 ≡ 260
  pub second : length s1 ≡ 260
  pub third : length s2 ≡ 260
  pub fourth : length s3 ≡ 260

-- what four lines have at place i
abbrev pub lines_at : List Float → List Float → List Float → List Float → ℕ → List Float
lines_at s0 s1 s2 s3 i = s0 at i ∷ s1 at i ∷ s2 at i ∷ s3 at i ∷ []
