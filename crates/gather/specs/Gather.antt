-- The cubics at places beside candidates, gathered into a slot. Nothing here stands in a promise of an entry. Definitions only.
use Rattle.std.specs.Prelude.{ℕ, ◌+◌, ◌%◌, ◌≤◌, ◌<◌, ◌≡◌, ◌⊎◌, List, length, get_or, Float}
use Rattle.fit.specs.Cubic.{coeffs_of}
use Rattle.samples.specs.Four.{Four, samples_by}
use Rattle.columns.specs.Stat.{cubic_in}

-- four lists of 780
pub record Long (a b c d : List Float) : Type 0 where
  pub first : length a ≡ 780
  pub second : length b ≡ 780
  pub third : length c ≡ 780
  pub fourth : length d ≡ 780

-- the samples at the i-th place from the offsets on
abbrev pub samples_from : Four → Four → ℕ → ℕ → ℕ → List Float → ℕ → List Float
samples_from l r left mid right g i = samples_by l r (left + i) (mid + i) (right + i) g

-- for each of the first k codes whose pixel is one of the first n: the cubics that the table t makes of the samples f at the three places from its own on lie in the slot at z; what lies outside of the slot is as it was
pub record Gathered (t : List Float) (f : ℕ → List Float) (z n k : ℕ) (codes : List ℕ) (a b c d a' b' c' d' : List Float) : Type 0 where
  pub here : (j : ℕ) → j < k → get_or codes j 0 % 780 < n → (q : ℕ) → q < 3 → cubic_in a' b' c' d' (z + get_or codes j 0 % 780 + q) ≡ coeffs_of t (f (get_or codes j 0 % 780 + q))
  pub same : (i : ℕ) → (i < z) ⊎ (z + 257 ≤ i) → cubic_in a' b' c' d' i ≡ cubic_in a b c d i
  pub long : Long a' b' c' d'
