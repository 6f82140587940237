-- Laws of a buffer as slots: slots and their bytes are two forms of one thing; the free slot. Assumes nothing.
use Prim.Native.Nat.{ℕ, zero, suc, ◌+◌, ◌-◌, ◌*◌, ◌/◌, ◌%◌, ◌≤◌, ◌<◌}
use native.Mathlib.Nat.{not-suc-le-zero, le_of_suc-le-suc}
use native.Mathlib.Omega.{arith}
use mathlib.Core.Bool.{Bool, true, false, false≢true}
use mathlib.Core.Path.{◌≡◌, refl, sym, ap, ◌∙◌}
use mathlib.Core.List.{List, [], ◌∷◌, ◌++◌}
use lib.Dec.{eqb, ltb}
use lib.ListN.{length, get_or, take, drop, set, replicate, length-append, length-take, length-drop, take-append-drop, drop_of_length-le, get_or-eq_default}
use lib.Seq.{sets, sets-eq, length-take-le, take_at, drop_at, drop-drop, get_or-set_other}
use borrow.Author.Tests.{eqb-true, eq-eqb, ltb-true, ltb-false}
use Rattle.float.proofs.Bools.{both}
use Rattle.record.specs.Layout.{spot_width, record_with, record_from}
use Rattle.record.specs.Readable.{readable}
use Rattle.record.proofs.ReadableLaws.{readable_parts}
use Rattle.store_slots.specs.Slots.{mark, free_bytes, same, is_free, slots_from, slots_of, flat}

-- ---- the free slot

pub length-free : length free_bytes ≡ spot_width
unfolding free_bytes
length-free = refl

-- its polarity byte is 255
pub free-polarity : (record_from free_bytes 0).polarity ≡ 255
unfolding free_bytes record_from record_with
free-polarity = refl

-- every other byte is 0
pub free_other : (k : ℕ) → (k ≡ mark → ⊥) → get_or free_bytes k 0 ≡ 0
unfolding free_bytes
free_other k h = get_or-set_other (replicate spot_width 0) mark k 255 0 h ∙ zeros spot_width k
  where
    zeros : (n k : ℕ) → ◌≡◌ {A = ℕ} (get_or (replicate n 0) k 0) 0
    zeros zero k = refl
    zeros (suc n) zero = refl
    zeros (suc n) (suc k) = zeros n k

pub same_self : (l : List ℕ) → same l l ≡ true
unfolding same
same_self [] = refl
same_self (x ∷ l) = rw (eq-eqb x x refl) (same_self l)

pub same-is : (l m : List ℕ) → same l m ≡ true → l ≡ m
unfolding same
same-is [] [] e = refl
same-is [] (y ∷ m) e = absurd (false≢true e)
same-is (x ∷ l) [] e = absurd (false≢true e)
same-is (x ∷ l) (y ∷ m) e =
    let p = both (eqb x y) (same l m) e in
    rw (eqb-true x y p.0, same-is l m p.1)

pub free-is-free : is_free free_bytes ≡ true
unfolding is_free
free-is-free = same_self free_bytes

-- a slot is free exactly when it has those bytes
pub free-is : (s : List ℕ) → is_free s ≡ true → s ≡ free_bytes
unfolding is_free
free-is s e = same-is s free_bytes e

-- no free slot is readable, whatever the sides
pub free_unreadable : (rows cols : ℕ) → readable rows cols (record_from free_bytes 0) ≡ false
free_unreadable rows cols = go (readable rows cols (record_from free_bytes 0)) refl
  where
    go : (t : Bool) → readable rows cols (record_from free_bytes 0) ≡ t → readable rows cols (record_from free_bytes 0) ≡ false
    go false e = e
    go true e = let z : ⊥ = omega (arith, (readable_parts rows cols (record_from free_bytes 0) e).polarity, free-polarity) in absurd z

pub readable-not-free : (rows cols : ℕ) (s : List ℕ) → readable rows cols (record_from s 0) ≡ true → is_free s ≡ false
readable-not-free rows cols s e = go (is_free s) refl
  where
    go : (t : Bool) → is_free s ≡ t → is_free s ≡ false
    go false f = f
    go true f =
        let z : false ≡ true = sym (free_unreadable rows cols) ∙ ap (λ (b : List ℕ). readable rows cols (record_from b 0)) (sym (free-is s f)) ∙ e in
        absurd (false≢true z)

-- ---- slots of the right length

-- each slot is as long as a record
unfoldable pub Sized : List (List ℕ) → Type 0
Sized [] = Unit
Sized (s ∷ ss) = (length s ≡ spot_width) × Sized ss

pub sized_set : (ss : List (List ℕ)) (i : ℕ) (s : List ℕ) → Sized ss → length s ≡ spot_width → Sized (set ss i s)
unfolding Sized
sized_set [] i s p h = p
sized_set (t ∷ ss) zero s p h = (h, p.1)
sized_set (t ∷ ss) (suc i) s p h = (p.0, sized_set ss i s p.1 h)

pub sized_append : (ss tt : List (List ℕ)) → Sized ss → Sized tt → Sized (ss ++ tt)
unfolding Sized
sized_append [] tt p q = q
sized_append (s ∷ ss) tt p q = (p.0, sized_append ss tt p.1 q)

pub sized_frees : (n : ℕ) → Sized (replicate n free_bytes)
unfolding Sized
sized_frees zero = tt
sized_frees (suc n) = (length-free, sized_frees n)

pub sized_at : (ss : List (List ℕ)) (i : ℕ) (d : List ℕ) → Sized ss → i < length ss → length (get_or ss i d) ≡ spot_width
unfolding Sized
sized_at [] i d p h = absurd (not-suc-le-zero h)
sized_at (s ∷ ss) zero d p h = p.0
sized_at (s ∷ ss) (suc i) d p h = sized_at ss i d p.1 (le_of_suc-le-suc h)

-- ---- slots and bytes

pub length-slots_from : (n : ℕ) (b : List ℕ) → length (slots_from n b) ≡ n
unfolding slots_from
length-slots_from zero b = refl
length-slots_from (suc n) b = ap suc (length-slots_from n (drop spot_width b))

pub sized_slots_from : (n : ℕ) (b : List ℕ) → n * spot_width ≤ length b → Sized (slots_from n b)
unfolding slots_from Sized
sized_slots_from zero b h = tt
sized_slots_from (suc n) b h = (length-take-le spot_width b (omega arith), sized_slots_from n (drop spot_width b) (omega (arith, length-drop spot_width b)))

pub sized_slots : (b : List ℕ) → Sized (slots_of b)
sized_slots b = sized_slots_from (length b / spot_width) b (omega arith)

pub length-flat : (ss : List (List ℕ)) → Sized ss → length (flat ss) ≡ length ss * spot_width
unfolding flat Sized
length-flat [] p = refl
length-flat (s ∷ ss) p = omega (arith, length-append s (flat ss), p.0, length-flat ss p.1)

slots_flat : (ss : List (List ℕ)) → Sized ss → slots_from (length ss) (flat ss) ≡ ss
unfolding slots_from flat Sized
slots_flat [] p = refl
slots_flat (s ∷ ss) p = rw (take_at s (flat ss) spot_width p.0, drop_at s (flat ss) spot_width p.0, slots_flat ss p.1)

-- the slots of slots one after the other are they themselves
pub slots_of-flat : (ss : List (List ℕ)) → Sized ss → slots_of (flat ss) ≡ ss
slots_of-flat ss p =
    let count : length (flat ss) / spot_width ≡ length ss = omega (arith, length-flat ss p) in
    ap (λ (n : ℕ). slots_from n (flat ss)) count ∙ slots_flat ss p

pub flat-slots_from : (n : ℕ) (b : List ℕ) → length b ≡ n * spot_width → flat (slots_from n b) ≡ b
unfolding slots_from flat
flat-slots_from zero b h = sym (drop_of_length-le b {i = 0} (omega arith))
flat-slots_from (suc n) b h =
    rw (flat-slots_from n (drop spot_width b) (omega (arith, length-drop spot_width b))) (take-append-drop spot_width b)

-- and a buffer of whole slots is its slots one after the other
pub flat-slots_of : (b : List ℕ) → length b % spot_width ≡ 0 → flat (slots_of b) ≡ b
flat-slots_of b h = flat-slots_from (length b / spot_width) b (omega arith)

-- the slot i is the bytes from i * spot_width on
pub slot_at : (n : ℕ) (b : List ℕ) (i : ℕ) (d : List ℕ) → i < n → get_or (slots_from n b) i d ≡ take spot_width (drop (i * spot_width) b)
unfolding slots_from
slot_at zero b i d h = absurd (not-suc-le-zero h)
slot_at (suc n) b zero d h = refl
slot_at (suc n) b (suc i) d h =
    let place : suc i * spot_width ≡ spot_width + i * spot_width = omega arith in
    slot_at n (drop spot_width b) i d (le_of_suc-le-suc h) ∙ ap (take spot_width) (drop-drop (i * spot_width) spot_width b ∙ ap (λ (k : ℕ). drop k b) (sym place))

-- how many slots a buffer has
pub count_of : (b : List ℕ) → length (slots_of b) ≡ length b / spot_width
count_of b = length-slots_from (length b / spot_width) b

pub slot_is : (b : List ℕ) (i : ℕ) (d : List ℕ) → i < length b / spot_width → take spot_width (drop (i * spot_width) b) ≡ get_or (slots_of b) i d
slot_is b i d h = sym (slot_at (length b / spot_width) b i d h)

pub slot-long : (b : List ℕ) (i : ℕ) → i < length b / spot_width → length (take spot_width (drop (i * spot_width) b)) ≡ spot_width
slot-long b i h = omega (arith, length-take spot_width (drop (i * spot_width) b), length-drop (i * spot_width) b)

-- a part lent of a buffer is a slot
pub part_slot : (b : List ℕ) (at : ℕ) → take (at + spot_width - at) (drop at b) ≡ take spot_width (drop at b)
part_slot b at = let w : at + spot_width - at ≡ spot_width = omega arith in rw w

pub part_length : (b : List ℕ) (at : ℕ) → at + spot_width ≤ length b → length (take (at + spot_width - at) (drop at b)) ≡ spot_width
part_length b at h = rw (part_slot b at) (omega (arith, length-take spot_width (drop at b), length-drop at b))

-- past the end a slot is read as free
pub past-free : (b : List ℕ) (i : ℕ) → length b / spot_width ≤ i → is_free (get_or (slots_of b) i free_bytes) ≡ true
past-free b i h = rw (get_or-eq_default (slots_of b) free_bytes {n = i} (omega (arith, count_of b))) free-is-free

-- where a slot is live, it is one of them
pub live_inside : (b : List ℕ) (i : ℕ) → is_free (get_or (slots_of b) i free_bytes) ≡ false → i < length b / spot_width
live_inside b i e = go (ltb i (length b / spot_width)) refl
  where
    go : (t : Bool) → ltb i (length b / spot_width) ≡ t → i < length b / spot_width
    go true t = ltb-true _ _ t
    go false t = let z : false ≡ true = sym e ∙ past-free b i (ltb-false _ _ t) in absurd (false≢true z)

-- ---- a slot stored

sets-past : (s v rest : List ℕ) (k : ℕ) → sets (s ++ rest) (length s + k) v ≡ s ++ sets rest k v
sets-past s [] rest k = refl
sets-past s (x ∷ v) rest k =
    let next : suc (length s + k) ≡ length s + suc k = omega arith in
    ap (λ (l : List ℕ). sets l (suc (length s + k)) v) (one s k) ∙ ap (λ (j : ℕ). sets (s ++ set rest k x) j v) next ∙ sets-past s v (set rest k x) (suc k)
  where
    one : (s : List ℕ) (k : ℕ) → set (s ++ rest) (length s + k) x ≡ s ++ set rest k x
    one [] k = let e : 0 + k ≡ k = omega arith in rw e
    one (y ∷ s) k = let e : suc (length s) + k ≡ suc (length s + k) = omega arith in rw e (ap {B = List ℕ} (λ r. y ∷ r) (one s k))

sets-front : (s v rest : List ℕ) → length s ≡ length v → sets (s ++ rest) 0 v ≡ v ++ rest
sets-front s v rest h =
    let start : 0 + length v ≡ length s = omega arith in
    sets-eq v (s ++ rest) 0 (omega (arith, length-append s rest)) ∙ ap (λ (r : List ℕ). v ++ r) (ap (λ (k : ℕ). drop k (s ++ rest)) start ∙ drop_at s rest (length s) refl)

-- a slot's bytes stored at its place
pub flat-set : (ss : List (List ℕ)) (i : ℕ) (v : List ℕ) → Sized ss → length v ≡ spot_width → i < length ss → sets (flat ss) (i * spot_width) v ≡ flat (set ss i v)
unfolding flat Sized
flat-set [] i v p h l = absurd (not-suc-le-zero l)
flat-set (s ∷ ss) zero v p h l = let start : zero * spot_width ≡ 0 = omega arith in rw start (sets-front s v (flat ss) (omega (arith, p.0)))
flat-set (s ∷ ss) (suc i) v p h l =
    let place : suc i * spot_width ≡ length s + i * spot_width = omega (arith, p.0) in
    rw (place, sets-past s v (flat ss) (i * spot_width), flat-set ss i v p.1 h (le_of_suc-le-suc l))

-- so the slots of a whole buffer, one of them stored
pub slots_set : (b : List ℕ) (i : ℕ) (v : List ℕ) → length b % spot_width ≡ 0 → length v ≡ spot_width → i < length b / spot_width → sets b (i * spot_width) v ≡ flat (set (slots_of b) i v)
slots_set b i v h w l =
    ap (λ (c : List ℕ). sets c (i * spot_width) v) (sym (flat-slots_of b h))
    ∙ flat-set (slots_of b) i v (sized_slots b) w (omega (arith, count_of b))

-- a slot stored is a slot of the list
pub slots_stored : (b : List ℕ) (i : ℕ) (v : List ℕ) → length b % spot_width ≡ 0 → length v ≡ spot_width → i < length b / spot_width → slots_of (sets b (i * spot_width) v) ≡ set (slots_of b) i v
slots_stored b i v h w l = ap slots_of (slots_set b i v h w l) ∙ slots_of-flat (set (slots_of b) i v) (sized_set (slots_of b) i v (sized_slots b) w)
