-- Laws of stores into a part of a list, and of a part that is copied. Assumes nothing.
use Prim.Native.Nat.{ℕ, zero, suc, ◌+◌, ◌-◌, ◌≤◌, ◌<◌}
use native.Mathlib.Numerals.{add-one}
use native.Mathlib.Omega.{arith}
use mathlib.Core.Path.{◌≡◌, refl, sym, ap, ◌∙◌}
use mathlib.Core.List.{List, [], ◌∷◌, ◌++◌, append_assoc}
use lib.ListN.{length, take, drop, set, get_or, length-append, length-drop}
use lib.Seq.{sets, length-sets, sets-eq, take-suc, length-take-le, get_or-drop, take_at, drop_at, take-append-le, take-take, drop-append-add, drop-drop, take-suc-set}
use borrow.Rule.Slice.PartMut.{put_mid}
use Rattle.words.proofs.Stores.{sets-append}

-- one element more of a part that is copied
pub copied_next : {A : Type 0} (out s : List A) (at p n r : ℕ) (d : A) → r < n → p + n ≤ length s
    → set (sets out at (take r (drop p s))) (at + r) (get_or s (p + r) d) ≡ sets out at (take (r + 1) (drop p s))
copied_next out s at p n r d h k =
    let fits : r < length (drop p s) = rw length-drop (omega arith) in
    let long : length (take r (drop p s)) ≡ r = length-take-le r (drop p s) (omega arith) in
    rw (add-one, take-suc (drop p s) r d fits, sets-append (take r (drop p s)) (get_or (drop p s) r d ∷ []) out at, long, get_or-drop p s r d)

-- one element more of a list's first ones
pub copied_first : {A : Type 0} (out s : List A) (at n r : ℕ) (d : A) → r < n → n ≤ length s → set (sets out at (take r s)) (at + r) (get_or s r d) ≡ sets out at (take (r + 1) s)
copied_first out s at n r d h k =
    let e : 0 + r ≡ r = omega arith in
    ap (λ (x : ℕ). set (sets out at (take r s)) (at + r) (get_or s x d)) (sym e) ∙ copied_next out s at 0 n r d h (omega arith)

-- one element more of a list that is filled from a part of another
pub filled_part : {A : Type 0} (out s : List A) (p k : ℕ) (d : A) → k < length out → p + k < length s → take k out ≡ take k (drop p s)
    → take (k + 1) (set out k (get_or s (p + k) d)) ≡ take (k + 1) (drop p s)
filled_part out s p k d h g e =
    let fits : k < length (drop p s) = rw length-drop (omega arith) in
    rw (add-one, take-suc-set, take-suc (drop p s) k d fits, e, get_or-drop p s k d)

-- stored at the front, what lies past is kept
pub stored-front : {A : Type 0} (xs old : List A) → length xs ≤ length old → sets old 0 xs ≡ xs ++ drop (length xs) old
stored-front xs old h = let e : 0 + length xs ≡ length xs = omega arith in sets-eq xs old 0 (omega arith) ∙ rw e

-- a part of a buffer, put back with as many elements as it had
pub put_part : {A : Type 0} (a k : ℕ) (xs ys : List A) → length ys ≡ k → a + k ≤ length xs → put_mid a k xs ys ≡ sets xs a ys
put_part a k xs ys e h = rw (drop-drop k a xs, ← e) (sym (sets-eq ys xs a (omega arith) ∙ append_assoc (take a xs) ys (drop (a + length ys) xs)))

-- nothing is left past the end
pub none_left : {A : Type 0} (b : List A) (n : ℕ) → length b ≤ n → drop n b ≡ []
none_left [] zero h = refl
none_left [] (suc n) h = refl
none_left (x ∷ b) zero h = let z : ⊥ = omega arith in absurd z
none_left (x ∷ b) (suc n) h = none_left b n (omega arith)

-- ---- what a run of stores leaves before it, and past it

front_long : {A : Type 0} (out vs : List A) (p : ℕ) → p + length vs ≤ length out → length (take p out ++ vs) ≡ p + length vs
front_long out vs p h = length-append (take p out) vs ∙ ap (λ (x : ℕ). x + length vs) (length-take-le p out (omega arith))

pub take-sets : {A : Type 0} (out vs : List A) (p : ℕ) → p + length vs ≤ length out → take (p + length vs) (sets out p vs) ≡ take p out ++ vs
take-sets out vs p h = rw (sets-eq vs out p h) (take_at (take p out ++ vs) (drop (p + length vs) out) (p + length vs) (front_long out vs p h))

pub drop-sets : {A : Type 0} (out vs : List A) (p m : ℕ) → p + length vs ≤ length out → p + length vs ≤ m → drop m (sets out p vs) ≡ drop m out
drop-sets out vs p m h k =
    let long = front_long out vs p h in
    let e : m ≡ length (take p out ++ vs) + (m - (p + length vs)) = omega arith in
    let f : p + length vs + (m - (p + length vs)) ≡ m = omega arith in
    ap (drop m) (sets-eq vs out p h) ∙ ap (λ (x : ℕ). drop x (take p out ++ vs ++ drop (p + length vs) out)) e
    ∙ drop-append-add (take p out ++ vs) (drop (p + length vs) out) (m - (p + length vs)) ∙ drop-drop (m - (p + length vs)) (p + length vs) out
    ∙ ap (λ (x : ℕ). drop x out) f

take_below : {A : Type 0} (out vs : List A) (p q : ℕ) → p + length vs ≤ length out → q ≤ p → take q (sets out p vs) ≡ take q out
take_below out vs p q h k =
    let long : length (take p out) ≡ p = length-take-le p out (omega arith) in
    ap (take q) (sets-eq vs out p h ∙ append_assoc (take p out) vs (drop (p + length vs) out))
    ∙ take-append-le q (take p out) (vs ++ drop (p + length vs) out) (omega arith) ∙ take-take q p out k

-- what is stored over a run of stores is all that is left of it
pub sets_over : {A : Type 0} (out vs us : List A) (p q : ℕ) → p + length vs ≤ length out → q + length us ≤ length out → q ≤ p → p + length vs ≤ q + length us
    → sets (sets out p vs) q us ≡ sets out q us
sets_over out vs us p q h g k m =
    let long : length (sets out p vs) ≡ length out = length-sets out p vs in
    sets-eq us (sets out p vs) q (omega arith)
    ∙ ap (λ x. x ++ us ++ drop (q + length us) (sets out p vs)) (take_below out vs p q h k)
    ∙ ap (λ x. take q out ++ us ++ x) (drop-sets out vs p (q + length us) h m)
    ∙ sym (sets-eq us out q g)

-- and what is stored is read back
pub part_own : {A : Type 0} (vs l : List A) (at n : ℕ) → n ≡ length vs → at + n ≤ length l → take n (drop at (sets l at vs)) ≡ vs
part_own vs l at n e h =
    let front : length (take at l) ≡ at = length-take-le at l (omega arith) in
    rw (sets-eq vs l at (omega arith), append_assoc (take at l) vs (drop (at + length vs) l), drop_at (take at l) (vs ++ drop (at + length vs) l) at front)
    (take_at vs (drop (at + length vs) l) n (sym e))
