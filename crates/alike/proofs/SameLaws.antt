-- What a comparison of bytes tells, and how it goes turn by turn. Assumes nothing.
use Prim.Native.Nat.{ℕ}
use mathlib.Core.Bool.{true, false, false≢true, and-eq-true_iff}
use mathlib.Core.Path.{◌≡◌, refl, sym, ap₂, ◌∙◌}
use mathlib.Core.List.{List, [], ◌∷◌}
use lib.Dec.{eqb}
use borrow.Author.Tests.{eqb-true, eq-eqb}
use Rattle.std.specs.Cmp.Lexicographic.{pointwise}
use Rattle.alike.specs.Same.{same}

-- ---- what it tells

pub same_equal : (l m : List ℕ) → same l m ≡ true → l ≡ m
unfolding same
same_equal [] [] h = refl
same_equal [] (y ∷ ys) h = absurd (false≢true h)
same_equal (x ∷ xs) [] h = absurd (false≢true h)
same_equal (x ∷ xs) (y ∷ ys) h = let p = (and-eq-true_iff (eqb x y) (same xs ys)).0 h in ap₂ (λ (a : ℕ) (l : List ℕ). a ∷ l) (eqb-true x y p.0) (same_equal xs ys p.1)

pub same-own : (l : List ℕ) → same l l ≡ true
unfolding same
same-own [] = refl
same-own (x ∷ xs) = rw (eq-eqb x x refl) (same-own xs)

pub not_same : (l m : List ℕ) → same l m ≡ false → l ≡ m → ⊥
not_same l m h e = false≢true (sym h ∙ rw e (same-own m))

-- ---- it is the library's test of two slices
pub same_pointwise : (l m : List ℕ) → same l m ≡ pointwise eqb l m
unfolding same
same_pointwise [] [] = refl
same_pointwise [] (y ∷ ys) = refl
same_pointwise (x ∷ xs) [] = refl
same_pointwise (x ∷ xs) (y ∷ ys) = rw (same_pointwise xs ys)
