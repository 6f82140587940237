-- What is stored in a buffer: in parts, and from its start on. Assumes nothing.
use Prim.Native.Nat.{ℕ, ◌+◌, ◌-◌, ◌≤◌, ◌<◌}
use native.Mathlib.Nat.{eq-zero-or-pos}
use native.Mathlib.Numerals.{add-one}
use native.Mathlib.Omega.{arith}
use mathlib.Core.Path.{◌≡◌, refl, sym, ap, ◌∙◌}
use mathlib.Core.Logic.{⊎_elim}
use mathlib.Core.List.{List, [], ◌∷◌, ◌++◌, append-nil}
use lib.ListN.{length, get_or, drop, drop_of_length-le, set, length-append, length-drop, get_or-append}
use lib.Seq.{sets, length-sets, sets-eq, ext_get_or, get_or-append-add, get_or-drop}
use lib.Ieee.{Float, nan}
use Rattle.words.proofs.Stores.{sets-append, sets-before, sets-past, sets_at}
use Rattle.grid.specs.Grid.{list_of, at_start, Stored}
use Rattle.grid.proofs.GridLaws.{length_list, list_at}

pub stored-none : {out : List Float} {at : ℕ} → Stored out out at []
stored-none = record { floats = refl }

pub stored_one : {out : List Float} {at : ℕ} {x : Float} → Stored out (set out at x) at (x ∷ [])
stored_one = record { floats = refl }

-- what is stored in two parts, one after the other
pub stored-append : {a b c : List Float} {at m : ℕ} {fs gs : List Float} → Stored a b at fs → m ≡ at + length fs → Stored b c m gs → Stored a c at (fs ++ gs)
stored-append {a = a} {at = at} {fs = fs} {gs = gs} p e q = record { floats = q.floats ∙ rw (e, p.floats) (sym (sets-append fs gs a at)) }

pub stored-length : {a b : List Float} {at : ℕ} {fs : List Float} → Stored a b at fs → length b ≡ length a
stored-length {a = a} {at = at} {fs = fs} p = ap length p.floats ∙ length-sets a at fs

-- what is stored from the buffer's start on stands before the old floats
pub stored-start : {a b : List Float} {fs : List Float} → Stored a b 0 fs → length fs ≤ length a → b ≡ at_start fs a
stored-start {a = a} {fs = fs} p room =
    let start : 0 + length fs ≡ length fs = omega arith in
    p.floats ∙ sets-eq fs a 0 (omega arith) ∙ ap (λ (k : ℕ). fs ++ drop k a) start

-- one float more of what f gives
pub stored_next : {out out' : List Float} {at i : ℕ} (f : ℕ → Float) {v : Float} → Stored out out' at (list_of f i) → v ≡ f i → Stored out (set out' (at + i) v) at (list_of f (i + 1))
unfolding list_of
stored_next {at = at} {i = i} f p e =
    let next : at + i ≡ at + length (list_of f i) = omega (arith, length_list f i) in
    rw (add-one, e) (stored-append p next stored_one)

-- ---- the floats after a store

module _ {a b : List Float} {at : ℕ} {fs : List Float} (p : Stored a b at fs) where
  -- what is stored
  pub stored_at : (i : ℕ) → at + length fs ≤ length a → i < length fs → get_or b (at + i) nan ≡ get_or fs i nan
  stored_at i room h = ap (λ (l : List Float). get_or l (at + i) nan) p.floats ∙ sets_at fs a at i nan room h

  -- what lies before it and past it is kept
  pub stored-before : (j : ℕ) → j < at → get_or b j nan ≡ get_or a j nan
  stored-before j h = ap (λ (l : List Float). get_or l j nan) p.floats ∙ sets-before fs a at j nan h

  pub stored_past : (j : ℕ) → at + length fs ≤ j → get_or b j nan ≡ get_or a j nan
  stored_past j h = ap (λ (l : List Float). get_or l j nan) p.floats ∙ sets-past fs a at j nan h

-- where what f gives is being stored, the floats after the first i are as before
pub stored-rest : {out out' : List Float} {at i : ℕ} (f : ℕ → Float) → Stored out out' at (list_of f i) → (j : ℕ) → i ≤ j → get_or out' (at + j) nan ≡ get_or out (at + j) nan
stored-rest {at = at} {i = i} f p j h = stored_past p (at + j) (omega (arith, length_list f i))

-- and those stored are what f gives
pub stored-float : {out out' : List Float} {at n : ℕ} (f : ℕ → Float) → Stored out out' at (list_of f n) → at + n ≤ length out → (i : ℕ) → i < n → get_or out' (at + i) nan ≡ f i
stored-float {at = at} {n = n} f p room i h = stored_at p i (omega (arith, length_list f n)) (omega (arith, length_list f n)) ∙ list_at f n i h

-- floats that are there already may be stored again
pub stored_self : {out : List Float} {at : ℕ} (f : ℕ → Float) (n : ℕ) → at + n ≤ length out → ((i : ℕ) → i < n → get_or out (at + i) nan ≡ f i) → Stored out out at (list_of f n)
stored_self {out} {at} f n room same = record { floats = ext_get_or nan out (sets out at (list_of f n)) (sym (length-sets out at (list_of f n))) each }
  where
    within : (j : ℕ) → at ≤ j → j < at + n → get_or out j nan ≡ get_or (sets out at (list_of f n)) j nan
    within j h less =
        let place : j ≡ at + (j - at) = omega arith in
        rw place (same (j - at) (omega arith) ∙ sym (sets_at (list_of f n) out at (j - at) nan (omega (arith, length_list f n)) (omega (arith, length_list f n)) ∙ list_at f n (j - at) (omega arith)))

    each : (j : ℕ) → j < length out → get_or out j nan ≡ get_or (sets out at (list_of f n)) j nan
    each j h =
        ⊎_elim
        (λ z. ⊎_elim
        (λ y. sym (sets-past (list_of f n) out at j nan (omega (arith, length_list f n))))
        (λ y. within j (omega arith) (omega arith))
        (eq-zero-or-pos (at + n - j)))
        (λ z. sym (sets-before (list_of f n) out at j nan (omega arith)))
        (eq-zero-or-pos (at - j))

-- what is stored over a store of the same place and length
pub stored_again : {a b c : List Float} {at : ℕ} {fs gs : List Float} → Stored a b at fs → Stored b c at gs → length fs ≡ length gs → at + length gs ≤ length a → Stored a c at gs
stored_again {a} {b} {c} {at} {fs} {gs} p q e room = record {
  floats = ext_get_or nan c (sets a at gs) (stored-length q ∙ stored-length p ∙ sym (length-sets a at gs)) same;
}
  where
    within : (j : ℕ) → at ≤ j → j < at + length gs → get_or c j nan ≡ get_or (sets a at gs) j nan
    within j h less =
        let place : j ≡ at + (j - at) = omega arith in
        rw place (stored_at q (j - at) (omega (arith, stored-length p)) (omega arith) ∙ sym (sets_at gs a at (j - at) nan room (omega arith)))

    same : (j : ℕ) → j < length c → get_or c j nan ≡ get_or (sets a at gs) j nan
    same j h =
        ⊎_elim
        (λ z. ⊎_elim
        (λ y. stored_past q j (omega arith) ∙ stored_past p j (omega arith) ∙ sym (sets-past gs a at j nan (omega arith)))
        (λ y. within j (omega arith) (omega arith))
        (eq-zero-or-pos (at + length gs - j)))
        (λ z. stored-before q j (omega arith) ∙ stored-before p j (omega arith) ∙ sym (sets-before gs a at j nan (omega arith)))
        (eq-zero-or-pos (at - j))

-- ---- floats at the start of a buffer

-- the buffer keeps its length
pub start-length : (fs out : List Float) → length fs ≤ length out → length (at_start fs out) ≡ length out
start-length fs out h = omega (arith, length-append fs (drop (length fs) out), length-drop (length fs) out)

-- it begins with the floats
pub start_at : (fs out : List Float) (i : ℕ) → i < length fs → get_or (at_start fs out) i nan ≡ get_or fs i nan
start_at fs out i h = get_or-append fs _ nan i h

-- and keeps what lies past them
pub start-past : (fs out : List Float) (i : ℕ) → length fs ≤ i → get_or (at_start fs out) i nan ≡ get_or out i nan
start-past fs out i h =
    let e : length fs + (i - length fs) ≡ i = omega arith in
    rw (← e, get_or-append-add fs, get_or-drop (length fs) out)

-- where they fill the buffer, nothing else is left
pub start_exact : (fs out : List Float) → length out ≡ length fs → at_start fs out ≡ fs
start_exact fs out e = ap (λ (rest : List Float). fs ++ rest) (drop_of_length-le out {i = length fs} (omega (arith, e))) ∙ append-nil fs
