-- The values of nine cubics at a sigma, and edge rejection. Definitions only.
use Rattle.std.specs.Prelude.{ℕ, List, [], ◌∷◌, Bool, not, ◌&&◌, get_or, Float}
use Rattle.std.specs.Float.Ieee.{lt}
use Rattle.float.specs.Small.{finite}
use Rattle.float.specs.Num.{◌⊕◌, ◌⊖◌, ◌⊗◌, ◌⊘◌, f2, f¼, f1e_10}
use Rattle.fit.specs.Cubic.{◌at◌, bends_of}

-- the value at s of the i-th of the cubics k, by powers of s
unfoldable pub value_of : List (List Float) → Float → ℕ → Float
value_of k s i =
    let q = get_or k i [] in
    q at 0 ⊗ (s ⊗ s ⊗ s) ⊕ q at 1 ⊗ (s ⊗ s) ⊕ q at 2 ⊗ s ⊕ q at 3

-- all nine
unfoldable pub values_of : List (List Float) → Float → List Float
values_of k s =
    value_of k s 0 ∷ value_of k s 1 ∷ value_of k s 2 ∷ value_of k s 3 ∷ value_of k s 4 ∷ value_of k s 5 ∷ value_of k s 6 ∷ value_of k s 7 ∷ value_of k s 8 ∷ []

-- The Hessian of nine values, by rows, passes: its numbers are finite, its determinant is not below 1e-10, its trace has the polarity's sign,
-- and the trace's square over the determinant is finite and not above the threshold.
unfoldable pub edge_of : List Float → Float → Bool → Bool
edge_of v most is_max =
    let gxx = v at 3 ⊖ f2 ⊗ v at 4 ⊕ v at 5 in
    let gyy = v at 1 ⊖ f2 ⊗ v at 4 ⊕ v at 7 in
    let gxy = f¼ ⊗ (v at 0 ⊕ v at 8 ⊖ v at 6 ⊖ v at 2) in
    let tr = gxx ⊕ gyy in
    let det = gxx ⊗ gyy ⊖ gxy ⊗ gxy in
    let ratio = tr ⊗ tr ⊘ det in
    finite gxx && finite gyy && finite gxy && finite tr && finite det && not (lt det f1e_10) && bends_of tr is_max
    && finite ratio && not (lt most ratio)
