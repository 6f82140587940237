-- How long a list by columns is, and where its pixels lie. Assumes nothing.
use Prim.Native.Nat.{ℕ, zero, suc, ◌+◌, ◌*◌, ◌≤◌, ◌<◌}
use native.Mathlib.Nat.{not-suc-le-zero, suc-mul, mul-le-mul, mul-le-mul_right}
use native.Mathlib.Numerals.{add-one}
use native.Mathlib.Omega.{arith}
use mathlib.Core.Path.{◌≡◌, refl, sym, ap, ◌∙◌}
use mathlib.Core.List.{[]}
use lib.ListN.{length, get_or, length-append, get_or-append}
use lib.Seq.{get_or_at, get_or-append-add}
use lib.Ieee.{Float, nan}
use borrow.Author.Count.{below_more}
use Rattle.grid.specs.Grid.{list_of, columns_of}

-- ---- what a function gives at 0 to n - 1

pub length_list : (f : ℕ → Float) (n : ℕ) → length (list_of f n) ≡ n
unfolding list_of
length_list f zero = refl
length_list f (suc n) = length-append (list_of f n) _ ∙ rw (length_list f n, add-one)

pub list_at : (f : ℕ → Float) (n i : ℕ) → i < n → get_or (list_of f n) i nan ≡ f i
unfolding list_of
list_at f zero i h = absurd (not-suc-le-zero h)
list_at f (suc n) i h =
    below_more (λ k. get_or (list_of f (suc n)) k nan ≡ f k) n
    (λ k less. get_or-append (list_of f n) _ nan k (omega (arith, length_list f n)) ∙ list_at f n k less)
    (get_or_at (list_of f n) _ [] nan n (length_list f n))
    i (omega arith)

-- two functions that agree under n give the same
pub list_same : (f g : ℕ → Float) (n : ℕ) → ((i : ℕ) → i < n → f i ≡ g i) → list_of f n ≡ list_of g n
unfolding list_of
list_same f g zero h = refl
list_same f g (suc n) h = rw (list_same f g n (λ i k. h i (omega arith)), h n (omega arith))

-- ---- and at the pixels of a map

-- a pixel of the first n columns lies before their end
pub before_last : (rows n c r : ℕ) → c < n → r < rows → c * rows + r < n * rows
before_last rows n c r h k = omega (arith, mul-le-mul_right {m = suc c} {n = n} rows h, suc-mul c rows)

module _ (f : ℕ → ℕ → Float) (rows : ℕ) where
  pub length-columns : (n : ℕ) → length (columns_of f rows n) ≡ n * rows
  unfolding columns_of
  length-columns zero = omega arith
  length-columns (suc n) =
      omega (arith, length-append (columns_of f rows n) (list_of (λ r. f r n) rows), length-columns n, length_list (λ r. f r n) rows, suc-mul n rows)

  -- pixel (r, c) is what f gives there
  pub columns_at : (n c r : ℕ) → c < n → r < rows → get_or (columns_of f rows n) (c * rows + r) nan ≡ f r c
  unfolding columns_of
  columns_at zero c r h k = absurd (not-suc-le-zero h)
  columns_at (suc n) c r h k =
      below_more (λ i. get_or (columns_of f rows (suc n)) (i * rows + r) nan ≡ f r i) n
      (λ i less.
      get_or-append (columns_of f rows n) _ nan (i * rows + r) (omega (arith, length-columns n, before_last rows n i r less k))
      ∙ columns_at n i r less k)
      (ap (λ (m : ℕ). get_or (columns_of f rows (suc n)) (m + r) nan) (sym (length-columns n))
      ∙ get_or-append-add (columns_of f rows n) _ r nan
      ∙ list_at (λ i. f i n) rows r k)
      c (omega arith)

-- a map of no rows has no floats
pub columns-none : (f : ℕ → ℕ → Float) (n : ℕ) → columns_of f 0 n ≡ []
unfolding columns_of list_of
columns-none f zero = refl
columns-none f (suc n) = rw (columns-none f n)

-- a map with sides to 4,096 has at most 16,777,216 pixels
pub area : {a b : ℕ} → a ≤ 4096 → b ≤ 4096 → a * b ≤ 16777216
area = mul-le-mul
