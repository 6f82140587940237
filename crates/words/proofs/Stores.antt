-- Laws of runs of stores, and of a list that is filled from the front. Assumes nothing.
use Prim.Native.Nat.{ℕ, zero, suc, ◌+◌, ◌≤◌, ◌<◌}
use native.Mathlib.Nat.{add-zero, add-suc, suc-add, not-suc-le-zero}
use native.Mathlib.Numerals.{add-one}
use native.Mathlib.Omega.{arith}
use mathlib.Core.Path.{◌≡◌, refl, sym, ◌∙◌}
use mathlib.Core.Logic.{◌⊎◌, inl, inr}
use mathlib.Core.List.{List, [], ◌∷◌, ◌++◌}
use lib.ListN.{length, get_or, take, drop, set, length-set, length-take, length-drop}
use lib.Seq.{sets, length-sets, take-suc-set, get_or-set_same, get_or-set_other, get_or-take, get_or-drop, ext_get_or}

-- a run of stores in two parts, one after the other
pub sets-append : {A : Type 0} (a b l : List A) (i : ℕ) → sets l i (a ++ b) ≡ sets (sets l i a) (i + length a) b
sets-append [] b l i = rw add-zero
sets-append (x ∷ a) b l i = rw (add-suc, ← suc-add) (sets-append a b (set l i x) (suc i))

pub two_stores : (l : List ℕ) (i a b : ℕ) → set (set l i a) (i + 1) b ≡ sets l i (a ∷ b ∷ [])
two_stores l i a b = let e : i + 1 ≡ suc i = omega arith in rw e

-- one element more, stored in its place
pub filled_next : {A : Type 0} (out front : List A) (k : ℕ) (v : A) → k < length out → take k out ≡ front → take (k + 1) (set out k v) ≡ front ++ (v ∷ [])
filled_next out front k v h e = rw (add-one, take-suc-set, e)

-- ---- what lies before, past and in a run of stores

pub sets-before : {A : Type 0} (vs l : List A) (at k : ℕ) (d : A) → k < at → get_or (sets l at vs) k d ≡ get_or l k d
sets-before [] l at k d h = refl
sets-before (v ∷ vs) l at k d h = sets-before vs (set l at v) (suc at) k d (omega arith) ∙ get_or-set_other l at k v d (λ e. omega arith)

pub sets-past : {A : Type 0} (vs l : List A) (at k : ℕ) (d : A) → at + length vs ≤ k → get_or (sets l at vs) k d ≡ get_or l k d
sets-past [] l at k d h = refl
sets-past (v ∷ vs) l at k d h = sets-past vs (set l at v) (suc at) k d (omega arith) ∙ get_or-set_other l at k v d (λ e. omega arith)

pub sets_at : {A : Type 0} (vs l : List A) (at i : ℕ) (d : A) → at + length vs ≤ length l → i < length vs → get_or (sets l at vs) (at + i) d ≡ get_or vs i d
sets_at [] l at i d room h = absurd (not-suc-le-zero h)
sets_at (v ∷ vs) l at zero d room h =
    let e : at + 0 ≡ at = omega arith in
    rw e (sets-before vs (set l at v) (suc at) at d (omega arith) ∙ get_or-set_same l at v d (omega arith))
sets_at (v ∷ vs) l at (suc i) d room h =
    let e : at + suc i ≡ suc at + i = omega arith in
    rw e (sets_at vs (set l at v) (suc at) i d (omega (arith, length-set l at v)) (omega arith))

-- a part that a run of stores does not reach is kept
pub part_kept : {A : Type 0} (vs l : List A) (at from n : ℕ) (d : A) → (from + n ≤ at) ⊎ (at + length vs ≤ from) → take n (drop from (sets l at vs)) ≡ take n (drop from l)
part_kept vs l at from n d h =
    ext_get_or d (take n (drop from (sets l at vs))) (take n (drop from l))
    (omega (arith, length-take n (drop from (sets l at vs)), length-drop from (sets l at vs), length-sets l at vs, length-take n (drop from l), length-drop from l))
    (λ i less. same i (omega (arith, length-take n (drop from (sets l at vs)))))
  where
    outside : (i : ℕ) → i < n → (from + n ≤ at) ⊎ (at + length vs ≤ from) → get_or (sets l at vs) (from + i) d ≡ get_or l (from + i) d
    outside i less (inl g) = sets-before vs l at (from + i) d (omega arith)
    outside i less (inr g) = sets-past vs l at (from + i) d (omega arith)

    same : (i : ℕ) → i < n → get_or (take n (drop from (sets l at vs))) i d ≡ get_or (take n (drop from l)) i d
    same i less =
        get_or-take n (drop from (sets l at vs)) i d less ∙ get_or-drop from (sets l at vs) i d ∙ outside i less h
        ∙ sym (get_or-take n (drop from l) i d less ∙ get_or-drop from l i d)
