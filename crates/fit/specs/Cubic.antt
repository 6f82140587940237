-- The cubic in sigma: its coefficients from four samples, and its values. Definitions only.
use Rattle.std.specs.Prelude.{ℕ, ◌+◌, Bool, cond, List, [], ◌∷◌, get_or, Float}
use Rattle.std.specs.Float.{nan}
use Rattle.std.specs.Float.Ieee.{lt}
use Rattle.float.specs.Num.{◌⊕◌, ◌⊖◌, ◌⊗◌, f0, f2, f6}

infixl 80 ◌at◌
-- the i-th float of a list
abbrev pub ◌at◌ : List Float → ℕ → Float
l at i = get_or l i nan

-- three entries of a table, from the i-th on, weighing the three differences
unfoldable pub row_of : List Float → ℕ → Float → Float → Float → Float
row_of t i d0 d1 d2 = t at i ⊗ d0 ⊕ t at (i + 1) ⊗ d1 ⊕ t at (i + 2) ⊗ d2

-- the coefficients a, b, c, d that the table t makes of the samples l: each row weighs the differences to the last sample, which d adds again
unfoldable pub coeffs_of : List Float → List Float → List Float
coeffs_of t l =
    let d0 = l at 0 ⊖ l at 3 in
    let d1 = l at 1 ⊖ l at 3 in
    let d2 = l at 2 ⊖ l at 3 in
    row_of t 0 d0 d1 d2 ∷ row_of t 3 d0 d1 d2 ∷ row_of t 6 d0 d1 d2 ∷ (row_of t 9 d0 d1 d2 ⊕ l at 3) ∷ []

-- the cubic k at s, by Horner's rule
unfoldable pub horner_of : List Float → Float → Float
horner_of k s = ((k at 0 ⊗ s ⊕ k at 1) ⊗ s ⊕ k at 2) ⊗ s ⊕ k at 3

-- the discriminant of the derivative of k
unfoldable pub discriminant_of : List Float → Float
discriminant_of k = f2 ⊗ k at 1 ⊗ (f2 ⊗ k at 1) ⊖ f2 ⊗ (f6 ⊗ k at 0) ⊗ k at 2

-- the second derivative of k at s
unfoldable pub curvature_of : List Float → Float → Float
curvature_of k s = f6 ⊗ k at 0 ⊗ s ⊕ f2 ⊗ k at 1

-- a number has the sign of the polarity's curvature: below 0 at a maximum, above 0 at a minimum
abbrev pub bends_of : Float → Bool → Bool
bends_of x is_max = cond is_max (lt x f0) (lt f0 x)
