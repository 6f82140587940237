-- The spatial fit of nine values, and the displacement that it gives. Definitions only.
use Rattle.std.specs.Prelude.{ℕ, zero, suc, ◌+◌, ◌*◌, List, [], ◌∷◌, Bool, cond, ◌&&◌, eqb, get_or, Float}
use Rattle.std.specs.Float.Ieee.{le, neg}
use Rattle.float.specs.Small.{finite}
use Rattle.float.specs.Num.{◌⊕◌, ◌⊖◌, ◌⊗◌, ◌⊘◌, f2, f4}
use Rattle.tables.specs.declared.Set.{Set}
use Rattle.fit.specs.Cubic.{◌at◌, bends_of}
use Rattle.fit.specs.Prims.{Prims, ours}

-- one of the two inner levels: 1 up to the second sigma, else 2
unfoldable pub index_of : List Float → Float → ℕ
index_of g sigma = cond (le sigma (g at 1)) 1 2

-- acc + f i + f (i + 1) + .., n terms, each sum rounded in turn
unfoldable pub sum_from : ℕ → ℕ → Float → (ℕ → Float) → Float
sum_from zero i acc f = acc
sum_from (suc n) i acc f = sum_from n (suc i) (acc ⊕ f i) f

-- where the spatial entries of a scale index begin
unfoldable pub block_of : ℕ → ℕ
block_of index = cond (eqb index 1) 0 45

-- the i-th term of a row: the row begins at the entry base of w, and order says which of the values v it weighs
unfoldable pub term_of : List Float → List ℕ → List Float → ℕ → ℕ → Float
term_of w order v base i = w at (base + i) ⊗ v at (get_or order i 9)

-- a row's sum, in the set's sample order
unfoldable pub row_sum_by : Prims → Set → ℕ → List Float → ℕ → Float
row_sum_by p s index v row = sum_from 9 0 (p.start row) (term_of s.spatial s.order v (block_of index + 9 * row))

-- w1 to w5
unfoldable pub spatial_by : Prims → Set → ℕ → List Float → List Float
spatial_by p s index v = row_sum_by p s index v 0 ∷ row_sum_by p s index v 1 ∷ row_sum_by p s index v 2 ∷ row_sum_by p s index v 3 ∷ row_sum_by p s index v 4 ∷ []

abbrev pub spatial_of : Set → ℕ → List Float → List Float
spatial_of = spatial_by ours

-- 4 w1 w2 - w3 w3
unfoldable pub denominator_of : List Float → Float
denominator_of w = f4 ⊗ w at 0 ⊗ w at 1 ⊖ w at 2 ⊗ w at 2

-- w1, w2, w3 and the denominator are finite, and w1 has the polarity's sign
unfoldable pub steep_of : List Float → Bool → Bool
steep_of w is_max =
    finite (w at 0) && finite (w at 1) && finite (w at 2) && finite (denominator_of w) && bends_of (w at 0) is_max

-- the displacement along a column
unfoldable pub delta_yOf : List Float → Float
delta_yOf w = (w at 2 ⊗ w at 3 ⊖ f2 ⊗ w at 0 ⊗ w at 4) ⊘ denominator_of w

-- the displacement along a row
unfoldable pub delta_xOf : List Float → Float → Float
delta_xOf w dy = (neg (w at 3) ⊖ w at 2 ⊗ dy) ⊘ (f2 ⊗ w at 0)
