-- Laws of checks in an order: the answer is the first that holds, by its place. Assumes nothing.
use Rattle.std.specs.Prelude.{Result, Ok, Err, ⊤}
use Prim.Native.Nat.{ℕ, zero, suc, ◌≤◌, ◌<◌}
use native.Mathlib.Omega.{arith}
use mathlib.Core.Bool.{Bool, true, false}
use mathlib.Core.List.{List, [], ◌∷◌, ◌++◌}
use mathlib.Core.Path.{◌≡◌, refl}
use lib.Dec.{ltb}
use borrow.Author.Tests.{ltb-false}
use Rattle.float.proofs.Bools.{neither}
use Rattle.tables.specs.declared.Refusal.{Refusal}
use Rattle.tables.specs.Refusal.{Check, unless, first_of, said_at, First, most_side, sides_check}

-- ---- one check

-- where checks are fine, the first of them does not hold, and the others are fine
pub unless-fine : (b : Bool) (r : Refusal) (next : Result ⊤ Refusal) → unless b r next ≡ Ok tt → (b ≡ false) × (next ≡ Ok tt)
unfolding unless
unless-fine true r next h = (cc, cc)
unless-fine false r next h = (refl, h)

-- what a check by itself refuses with, and that it does
pub said_bad : (b : Bool) (r w : Refusal) → unless b r (Ok tt) ≡ Err w → (b ≡ true) × (r ≡ w)
unfolding unless
said_bad true r w e = (refl, cc)
said_bad false r w e = (cc, cc)

-- sides that are not refused are no longer than the longest
pub sides_most : (rows cols : ℕ) → (sides_check rows cols).holds ≡ false → (rows ≤ most_side) × (cols ≤ most_side)
sides_most rows cols h = let p = neither (ltb most_side rows) (ltb most_side cols) h in (ltb-false most_side rows p.0, ltb-false most_side cols p.1)

-- ---- an entry's checks

-- a first refusal among the later checks is the first of all where the check before them does not hold
later : (c : Check) (cs : List Check) (r : Refusal) → c.holds ≡ false → First cs r → First (c ∷ cs) r
unfolding said_at unless
later c cs r e f = record {
  place = suc f.place;
  holds = f.holds;
  earlier = before;
}
  where
    before : (k : ℕ) → k < suc f.place → said_at (c ∷ cs) k ≡ Ok tt
    before zero h = rw e
    before (suc k) h = f.earlier k (omega arith)

-- a refusal that is answered is the first that holds
pub first-refused : (cs : List Check) (r : Refusal) → first_of cs ≡ Err r → First cs r
unfolding first_of said_at unless
first-refused [] r e = let never : ◌≡◌ {A = ℕ} 0 1 = cc in let z : ⊥ = omega (arith, never) in absurd z
first-refused (c ∷ cs) r e = go c.holds refl e (first-refused cs r)
  where
    go : (b : Bool) → c.holds ≡ b → unless b c.refusal (first_of cs) ≡ Err r → (first_of cs ≡ Err r → First cs r) → First (c ∷ cs) r
    go true t h further = record { place = zero; holds = rw t h; earlier = λ k less. let z : ⊥ = omega arith in absurd z }
    go false t h further = later c cs r t (further h)

-- a check that holds, with none before it that does, is answered
placed : (cs : List Check) (r : Refusal) (n : ℕ) → said_at cs n ≡ Err r → ((k : ℕ) → k < n → said_at cs k ≡ Ok tt) → first_of cs ≡ Err r
unfolding first_of said_at unless
placed [] r n h before = h
placed (c ∷ cs) r zero h before = go c.holds h
  where
    go : (b : Bool) → unless b c.refusal (Ok tt) ≡ Err r → unless b c.refusal (first_of cs) ≡ Err r
    go true e = e
    go false e = cc
placed (c ∷ cs) r (suc n) h before =
    let p = unless-fine c.holds c.refusal (Ok tt) (before zero (omega arith)) in
    rw p.0 (placed cs r n h (λ k less. before (suc k) (omega arith)))

-- and the first that holds is answered
pub refused-first : (cs : List Check) (r : Refusal) → First cs r → first_of cs ≡ Err r
refused-first cs r f = placed cs r f.place f.holds f.earlier

-- where the answer is fine, no check holds
pub first_fine : (cs : List Check) → first_of cs ≡ Ok tt → (k : ℕ) → said_at cs k ≡ Ok tt
unfolding first_of said_at unless
first_fine [] e k = refl
first_fine (c ∷ cs) e zero = let p = unless-fine c.holds c.refusal (first_of cs) e in rw p.0
first_fine (c ∷ cs) e (suc k) = let p = unless-fine c.holds c.refusal (first_of cs) e in first_fine cs p.1 k

-- and where no check holds, the answer is fine
pub fine-first : (cs : List Check) → ((k : ℕ) → said_at cs k ≡ Ok tt) → first_of cs ≡ Ok tt
unfolding first_of said_at unless
fine-first [] h = refl
fine-first (c ∷ cs) h = let p = unless-fine c.holds c.refusal (Ok tt) (h zero) in rw p.0 (fine-first cs (λ k. h (suc k)))

-- ---- checks behind others

-- where the first ones are fine, the others decide
pub first_over : (cs rest : List Check) → first_of cs ≡ Ok tt → first_of (cs ++ rest) ≡ first_of rest
unfolding first_of unless
first_over [] rest e = refl
first_over (c ∷ cs) rest e = let p = unless-fine c.holds c.refusal (first_of cs) e in rw p.0 (first_over cs rest p.1)

-- and where one of them refuses, it is answered
pub first_stops : (cs rest : List Check) (r : Refusal) → first_of cs ≡ Err r → first_of (cs ++ rest) ≡ Err r
unfolding first_of unless
first_stops [] rest r e = cc
first_stops (c ∷ cs) rest r e = go c.holds e (first_stops cs rest r)
  where
    go : (b : Bool) → unless b c.refusal (first_of cs) ≡ Err r → (first_of cs ≡ Err r → first_of (cs ++ rest) ≡ Err r) → unless b c.refusal (first_of (cs ++ rest)) ≡ Err r
    go true h further = h
    go false h further = further h
