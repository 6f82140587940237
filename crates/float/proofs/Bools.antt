-- Laws of tests that the kit's library does not have. Assumes nothing.
use mathlib.Core.Path.{◌≡◌, refl, sym, ◌∙◌, subst}
use lib.Dec.{T}
use mathlib.Core.Bool.{Bool, true, false, cond, not, ◌&&◌, ◌||◌, true≢false, false≢true, and-eq-true_iff}

-- ---- a test that said yes
pub says : (b : Bool) → b ≡ true → T b
says b e = subst T (sym e) tt

-- ---- several tests in one

pub both : (a b : Bool) → (a && b) ≡ true → (a ≡ true) × (b ≡ true)
both a b e = (and-eq-true_iff a b).0 e

pub all_four : (a b c d : Bool) → (a && b && c && d) ≡ true → (a ≡ true) × (b ≡ true) × (c ≡ true) × (d ≡ true)
all_four a b c d e =
    let x = both (a && b && c) d e in
    let y = both (a && b) c x.0 in
    let z = both a b y.0 in
    (z.0, z.1, y.1, x.1)

pub all_five : (a b c d e : Bool) → (a && b && c && d && e) ≡ true → (a ≡ true) × (b ≡ true) × (c ≡ true) × (d ≡ true) × (e ≡ true)
all_five a b c d e h =
    let x = both (a && b && c && d) e h in
    let y = all_four a b c d x.0 in
    (y.0, y.1, y.2, y.3, x.1)

pub all_eight : (a b c d e f g h : Bool) → (a && b && c && d && e && f && g && h) ≡ true
    → (a ≡ true) × (b ≡ true) × (c ≡ true) × (d ≡ true) × (e ≡ true) × (f ≡ true) × (g ≡ true) × (h ≡ true)
all_eight a b c d e f g h q =
    let x = both (a && b && c && d && e && f && g) h q in
    let y = both (a && b && c && d && e && f) g x.0 in
    let z = both (a && b && c && d && e) f y.0 in
    let w = all_five a b c d e z.0 in
    (w.0, w.1, w.2, w.3, w.4, z.1, y.1, x.1)

pub neither : (a b : Bool) → (a || b) ≡ false → (a ≡ false) × (b ≡ false)
neither false b h = (refl, h)
neither true b h = absurd (true≢false h)

pub not_both : (a b : Bool) → (a ≡ true → b ≡ false) → not (a && b) ≡ true
not_both true b h = rw (h refl)
not_both false b h = refl

pub second_false : (a b : Bool) → not (a && b) ≡ true → a ≡ true → b ≡ false
second_false true true h e = sym h
second_false true false h e = refl
second_false false b h e = absurd (false≢true e)

-- ---- one test by another

-- a test that holds only where another does fails where that one fails
pub contrary : {a b : Bool} → (a ≡ true → b ≡ true) → b ≡ false → a ≡ false
contrary {a = true} f h = absurd (false≢true (sym h ∙ f refl))
contrary {a = false} f h = refl

-- a test that holds only where another fails fails where that one holds
pub excluded : {a b : Bool} → (a ≡ true → b ≡ false) → b ≡ true → a ≡ false
excluded {a = true} f h = absurd (false≢true (sym (f refl) ∙ h))
excluded {a = false} f h = refl

-- ---- a value by a test

-- a result other than that of a failed test came of the test passed
pub passed : {A : Type 0} (test : Bool) (kept lost : A) {result : A} → cond test kept lost ≡ result → (lost ≡ result → ⊥) → (test ≡ true) × (kept ≡ result)
passed true kept lost e other = (refl, e)
passed false kept lost e other = absurd (other e)
