-- Laws of sized records one after the other.
use Prim.Native.Nat.{ℕ, zero, suc, ◌+◌, ◌-◌, ◌*◌, ◌/◌, ◌≤◌, ◌<◌}
use native.Mathlib.Nat.{add_comm, zero-add, zero-mul}
use native.Mathlib.Omega.{arith}
use mathlib.Core.Bool.{Bool, true, false}
use mathlib.Core.List.{List, [], ◌∷◌, ◌++◌}
use mathlib.Core.Path.{◌≡◌, refl, sym, ap, ◌∙◌, subst}
use lib.ListN.{length, drop, length-append}
use lib.Seq.{sets, sets-eq}
use Rattle.tables.specs.declared.Set.{Set}
use Rattle.record.specs.declared.Record.{Record}
use Rattle.words.proofs.Stores.{sets-append}
use Rattle.sized.proofs.SizedLaws.{length-sized_bytes, length-old_sized_bytes}
use Rattle.join.specs.Forms.{width_of, sized_width_of, record_in, sized_in}
use Rattle.join.specs.Join.{records_from, records_of, sized_all, laid_sized}

-- ---- lengths

pub length-sized_in : (old : Bool) (s : Set) (r : Record) → length (sized_in old s r) ≡ sized_width_of old
length-sized_in true s r = length-old_sized_bytes s r
length-sized_in false s r = length-sized_bytes s r

-- where the next sized record begins
pub next_place : (old : Bool) (i : ℕ) → suc i * sized_width_of old ≡ i * sized_width_of old + sized_width_of old
next_place true i = omega arith
next_place false i = omega arith

-- of n sized records that have room the i-th does
pub place_inside : (old : Bool) (i n room : ℕ) → i < n → n * sized_width_of old ≤ room → i * sized_width_of old + sized_width_of old ≤ room
place_inside true i n room h r = omega arith
place_inside false i n room h r = omega arith

length-sized_all : (old : Bool) (s : Set) (rs : List Record) → length (sized_all old s rs) ≡ length rs * sized_width_of old
unfolding sized_all
length-sized_all old s [] = sym (zero-mul (sized_width_of old))
length-sized_all old s (r ∷ rs) =
    length-append (sized_in old s r) (sized_all old s rs) ∙ rw (length-sized_in old s r, length-sized_all old s rs) (add_comm (sized_width_of old) (length rs * sized_width_of old) ∙ sym (next_place old (length rs)))

length-records_from : (old : Bool) (b : List ℕ) (n i : ℕ) → length (records_from old b n i) ≡ n
unfolding records_from
length-records_from old b zero i = refl
length-records_from old b (suc n) i = ap suc (length-records_from old b n (suc i))

pub length-all : (old : Bool) (s : Set) (b : List ℕ) → length (sized_all old s (records_of old b)) ≡ length b / width_of old * sized_width_of old
length-all old s b = length-sized_all old s (records_of old b) ∙ ap (λ (n : ℕ). n * sized_width_of old) (length-records_from old b (length b / width_of old) 0)

-- ---- stores

-- the i-th of n records stored, the rest follow it
pub stored_next : {next : List ℕ} (old : Bool) (s : Set) (list out : List ℕ) (n i : ℕ) → i < n
    → next ≡ sets out (i * sized_width_of old) (sized_in old s (record_in old list i))
    → sets out (i * sized_width_of old) (sized_all old s (records_from old list (n - i) i)) ≡ sets next ((i + 1) * sized_width_of old) (sized_all old s (records_from old list (n - (i + 1)) (i + 1)))
unfolding sized_all records_from
stored_next old s list out n i h next-is =
    let left : n - i ≡ suc (n - (i + 1)) = omega arith in
    let one : i + 1 ≡ suc i = omega arith in
    rw (left, one, next-is, next_place old i, sets-append (sized_in old s (record_in old list i)), length-sized_in old s (record_in old list i))

-- all are left
pub stored-start : (old : Bool) (s : Set) (list out : List ℕ) (n : ℕ)
    → sets out 0 (sized_all old s (records_from old list n 0)) ≡ sets out (0 * sized_width_of old) (sized_all old s (records_from old list (n - 0) 0))
stored-start old s list out n =
    let all : n - 0 ≡ n = omega arith in
    rw (all, zero-mul (sized_width_of old))

-- none is left
pub stored_end : (old : Bool) (s : Set) (list out : List ℕ) (n i : ℕ) → n ≤ i → sets out (i * sized_width_of old) (sized_all old s (records_from old list (n - i) i)) ≡ out
unfolding sized_all records_from
stored_end old s list out n i h = let none : n - i ≡ 0 = omega arith in rw none

-- the buffer as a whole
pub stored-laid : (old : Bool) (s : Set) (list out : List ℕ) → length list / width_of old * sized_width_of old ≤ length out → sets out 0 (sized_all old s (records_of old list)) ≡ laid_sized old s list out
unfolding laid_sized
stored-laid old s list out h =
    let sized : List ℕ = sized_all old s (records_of old list) in
    let fits : 0 + length sized ≤ length out = subst (λ (n : ℕ). 0 + n ≤ length out) (sym (length-all old s list)) (subst (λ (n : ℕ). n ≤ length out) (sym (zero-add (length list / width_of old * sized_width_of old))) h) in
    sets-eq sized out 0 fits ∙ ap (λ (k : ℕ). sized ++ drop k out) (zero-add (length sized))
