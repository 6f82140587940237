-- The cubics of a line of samples. Definitions only.
use Rattle.std.specs.Prelude.{ℕ, ◌≡◌, cond, List, [], ◌∷◌, length, set, Float}
use Rattle.std.specs.Float.{nan}
use Rattle.std.specs.Float.Ieee.{lt}
use Rattle.float.specs.Small.{abs_of}
use Rattle.float.specs.Num.{◌⊖◌, ◌⊗◌, f0, f2, f6, f1e_6}
use Rattle.fit.specs.Cubic.{◌at◌, coeffs_of, discriminant_of}
use Rattle.columns.specs.Line.{Written}

-- the discriminant of a cubic's derivative, and 0 for a quadratic
unfoldable pub under_root : List Float → Float
under_root k = cond (lt f1e_6 (abs_of (k at 0))) (discriminant_of k) f0

-- the same from three coefficients
unfoldable pub under_root_of : Float → Float → Float → Float
under_root_of a b c = cond (lt f1e_6 (abs_of a)) (f2 ⊗ b ⊗ (f2 ⊗ b) ⊖ f2 ⊗ (f6 ⊗ a) ⊗ c) f0

-- the cubic at place i of a line of samples
unfoldable pub cubic_at : List Float → List Float → List Float → List Float → List Float → ℕ → List Float
cubic_at t s0 s1 s2 s3 i = coeffs_of t (s0 at i ∷ s1 at i ∷ s2 at i ∷ s3 at i ∷ [])

-- the cubic k stored at m of four rings, and what stands under its root at i
pub record Stored (k : List Float) (m i : ℕ) (a b c d q a' b' c' d' q' : List Float) : Type 0 where
  pub first : a' ≡ set a m (k at 0)
  pub second : b' ≡ set b m (k at 1)
  pub third : c' ≡ set c m (k at 2)
  pub fourth : d' ≡ set d m (k at 3)
  pub root : q' ≡ set q i (under_root k)

-- the cubics of the first n places, from z on, and what stands under their roots
pub record Coefs (t s0 s1 s2 s3 : List Float) (z n : ℕ) (a b c d q a' b' c' d' q' : List Float) : Type 0 where
  pub first : Written nan a a' z n (λ i x. x ≡ cubic_at t s0 s1 s2 s3 i at 0)
  pub second : Written nan b b' z n (λ i x. x ≡ cubic_at t s0 s1 s2 s3 i at 1)
  pub third : Written nan c c' z n (λ i x. x ≡ cubic_at t s0 s1 s2 s3 i at 2)
  pub fourth : Written nan d d' z n (λ i x. x ≡ cubic_at t s0 s1 s2 s3 i at 3)
  pub root : Written nan q q' 0 n (λ i x. x ≡ under_root (cubic_at t s0 s1 s2 s3 i))

-- the lists are as long as the arrays that hold them, which nothing says of a list behind a `&mut`
pub record Sizes (a b c d q : List Float) : Type 0 where
  pub first : length a ≡ 780
  pub second : length b ≡ 780
  pub third : length c ≡ 780
  pub fourth : length d ≡ 780
  pub root : length q ≡ 256
