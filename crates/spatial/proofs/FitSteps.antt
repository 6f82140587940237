-- What the proofs of the spatial fit cite: a turn of its sum, a read inside a list, and the values in order.
use mathlib.Core.Path.{◌≡◌, refl, ap, ◌∙◌}
use mathlib.Core.List.{List, [], ◌∷◌}
use Prim.Native.Nat.{ℕ, zero, suc, ◌+◌, ◌-◌, ◌*◌, ◌<◌}
use native.Mathlib.Omega.{arith}
use lib.ListN.{length, get_or}
use lib.Ieee.{Float}
use Rattle.float.specs.Num.{◌⊕◌, ◌⊗◌, f0}
use Rattle.tables.specs.declared.Set.{Set}
use Rattle.fit.specs.Cubic.{◌at◌}
use Rattle.fit.specs.Prims.{ours}
use Rattle.spatial.specs.Place.{sum_from, block_of, term_of, row_sum_by}

pub sum_turn : (f : ℕ → Float) (n i : ℕ) (acc : Float) → i < n → sum_from (n - i) i acc f ≡ sum_from (n - (i + 1)) (i + 1) (acc ⊕ f i) f
unfolding sum_from
sum_turn f n i acc h =
    let left : n - i ≡ suc (n - (i + 1)) = omega arith in
    let next : i + 1 ≡ suc i = omega arith in
    rw (left, next)

-- inside a list the default is not looked at
inside_any_default : (l : List ℕ) (i c d : ℕ) → i < length l → get_or l i c ≡ get_or l i d
inside_any_default [] i c d h = let z : ⊥ = omega arith in absurd z
inside_any_default (a ∷ l) zero c d h = refl
inside_any_default (a ∷ l) (suc i) c d h = inside_any_default l i c d (omega arith)

-- equal terms, equal sums
sum_alike : (f g : ℕ → Float) (n i : ℕ) (acc : Float) → ((j : ℕ) → j < i + n → f j ≡ g j) → sum_from n i acc f ≡ sum_from n i acc g
unfolding sum_from
sum_alike f g zero i acc h = refl
sum_alike f g (suc n) i acc h = rw (h i (omega arith)) (sum_alike f g n (suc i) (acc ⊕ g i) (λ j k. h j (omega arith)))

-- u has the values v in the order of a row's terms
abbrev pub Ordered : List ℕ → List Float → List Float → Type 0
Ordered order v u = (i : ℕ) → i < 9 → u at i ≡ v at (get_or order i 9)

-- a row's sum over values in order is the sum of its terms
pub sum_ordered : (w v u : List Float) (order : List ℕ) (base : ℕ) (acc : Float) → Ordered order v u → sum_from 9 0 acc (λ i. w at (base + i) ⊗ u at i) ≡ sum_from 9 0 acc (term_of w order v base)
unfolding term_of
sum_ordered w v u order base acc h = sum_alike _ _ 9 0 acc (λ i k. ap (λ x. w at (base + i) ⊗ x) (h i k))

-- so it is the set's row
pub row_ordered : (s : Set) (v u : List Float) (index block : ℕ) → block ≡ block_of index → Ordered s.order v u
    → (row : ℕ) → sum_from 9 0 f0 (λ i. s.spatial at (block + 9 * row + i) ⊗ u at i) ≡ row_sum_by ours s index v row
unfolding row_sum_by
row_ordered s v u index block e h row = rw (← e) (sum_ordered s.spatial v u s.order (block + 9 * row) f0 h)

-- nine entries, each told by its number
nine_entries : (f : ℕ → Float) {a b c d e g h j k : Float} → a ≡ f 0 → b ≡ f 1 → c ≡ f 2 → d ≡ f 3 → e ≡ f 4 → g ≡ f 5 → h ≡ f 6 → j ≡ f 7 → k ≡ f 8
    → (i : ℕ) → i < 9 → (a ∷ b ∷ c ∷ d ∷ e ∷ g ∷ h ∷ j ∷ k ∷ []) at i ≡ f i
nine_entries f a b c d e g h j k zero l = a
nine_entries f a b c d e g h j k (suc zero) l = b
nine_entries f a b c d e g h j k (suc (suc zero)) l = c
nine_entries f a b c d e g h j k (suc (suc (suc zero))) l = d
nine_entries f a b c d e g h j k (suc (suc (suc (suc zero)))) l = e
nine_entries f a b c d e g h j k (suc (suc (suc (suc (suc zero))))) l = g
nine_entries f a b c d e g h j k (suc (suc (suc (suc (suc (suc zero)))))) l = h
nine_entries f a b c d e g h j k (suc (suc (suc (suc (suc (suc (suc zero))))))) l = j
nine_entries f a b c d e g h j k (suc (suc (suc (suc (suc (suc (suc (suc zero)))))))) l = k
nine_entries f a b c d e g h j k (suc (suc (suc (suc (suc (suc (suc (suc (suc i))))))))) l = let z : ⊥ = omega arith in absurd z

-- the nine values that the order's bytes name are in order
pub nine_ordered : (order : List ℕ) (v : List Float) {a b c d e g h j k : Float} → length order ≡ 9
    → a ≡ v at (get_or order 0 0) → b ≡ v at (get_or order 1 0) → c ≡ v at (get_or order 2 0) → d ≡ v at (get_or order 3 0) → e ≡ v at (get_or order 4 0)
    → g ≡ v at (get_or order 5 0) → h ≡ v at (get_or order 6 0) → j ≡ v at (get_or order 7 0) → k ≡ v at (get_or order 8 0)
    → Ordered order v (a ∷ b ∷ c ∷ d ∷ e ∷ g ∷ h ∷ j ∷ k ∷ [])
nine_ordered order v n a b c d e g h j k i l =
    nine_entries (λ m. v at (get_or order m 0)) a b c d e g h j k i l ∙ ap (λ m. v at m) (inside_any_default order i 0 9 (omega arith))
