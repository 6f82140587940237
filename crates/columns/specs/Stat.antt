-- The stationary point of a polarity and its value, told the root. Definitions only.
use Rattle.std.specs.Prelude.{ℕ, ◌+◌, ◌≡◌, Bool, cond, not, ◌&&◌, ◌||◌, List, [], ◌∷◌, Float, Some, None}
use Rattle.std.specs.Float.{nan}
use Rattle.std.specs.Float.Ieee.{lt, neg}
use Rattle.float.specs.Small.{abs_of}
use Rattle.float.specs.Num.{◌⊖◌, ◌⊗◌, ◌⊘◌, f0, f2, f6, f1e_6}
use Rattle.fit.specs.Cubic.{◌at◌, horner_of}
use Rattle.fit.specs.Band.{sign_of, stationary_of}
use Rattle.columns.specs.Line.{Written}

-- the cubic's point with the root taken off with the sign, or the quadratic's
unfoldable pub turn_at : Float → List Float → Float → Float
turn_at sign k root =
    cond (lt f1e_6 (abs_of (k at 0))) (neg (f2 ⊗ k at 1) ⊖ sign ⊗ root) (neg (k at 2)) ⊘ cond (lt f1e_6 (abs_of (k at 0))) (f6 ⊗ k at 0) (f2 ⊗ k at 1)

-- that point where there is one, and else NaN, which no comparison holds of
unfoldable pub point_of : Float → List Float → Float → Float
point_of sign k root = cond (lt f0 root || (not (lt f1e_6 (abs_of (k at 0))) && lt (sign ⊗ k at 1) (neg f1e_6))) (turn_at sign k root) nan

-- the value there, with the sign
unfoldable pub height_of : Float → List Float → Float → Float
height_of sign k root = sign ⊗ horner_of k (turn_at sign k root)

-- p is the stationary point of the polarity and v its value with the sign, or there is none and p is NaN
pub data Told (k : List Float) (is_max : Bool) (p v : Float) : Type 0 where
  point : stationary_of k is_max ≡ Some p → v ≡ sign_of is_max ⊗ horner_of k p → Told k is_max p v
  nowhere : stationary_of k is_max ≡ None → p ≡ nan → Told k is_max p v

-- the cubic at m of four rings
abbrev pub cubic_in : List Float → List Float → List Float → List Float → ℕ → List Float
cubic_in a b c d m = a at m ∷ b at m ∷ c at m ∷ d at m ∷ []

-- the points of n cubics from z on and their values, written from off on
pub record Points (sign : Float) (a b c d r : List Float) (z off n : ℕ) (p v p' v' : List Float) : Type 0 where
  pub point : Written nan p p' off n (λ i x. x ≡ point_of sign (cubic_in a b c d (z + i)) (r at i))
  pub height : Written nan v v' off n (λ i x. x ≡ height_of sign (cubic_in a b c d (z + i)) (r at i))
