-- What is finite: an operation's result only where its operands are; what has a value; what lies between 0 and a finite number. Assumes nothing.
use mathlib.Core.Path.{◌≡◌, refl, sym, ◌∙◌}
use mathlib.Core.Bool.{Bool, true, false, cond}
use Prim.Native.Nat.{ℕ}
use lib.Dec.{T, eqb}
use lib.Ieee.{Float, nan, inf, fin, add, sub, mul, neg, le, lt, eq, of_bits}
use lib.Ieee.Exact.{HasValue}
use Rattle.float.specs.Small.{finite}
use Rattle.float.specs.Num.{◌⊕◌, ◌⊖◌, ◌⊗◌, f0}

neither : (b : Bool) (x y : Float) → finite x ≡ false → finite y ≡ false → finite (cond b x y) ≡ false
neither true x y p q = p
neither false x y p q = q

pub sum-finite : (x y : Float) → finite (x ⊕ y) ≡ true → (finite x ≡ true) × (finite y ≡ true)
unfolding add finite
sum-finite nan y h = (cc, cc)
sum-finite (inf s) nan h = (cc, cc)
sum-finite (inf true) (inf true) h = (cc, cc)
sum-finite (inf true) (inf false) h = (cc, cc)
sum-finite (inf false) (inf true) h = (cc, cc)
sum-finite (inf false) (inf false) h = (cc, cc)
sum-finite (inf s) (fin t n d) h = (cc, cc)
sum-finite (fin s m e) nan h = (cc, cc)
sum-finite (fin s m e) (inf t) h = (cc, cc)
sum-finite (fin s m e) (fin t n d) h = (refl, refl)

neg-finite : (x : Float) → finite (neg x) ≡ finite x
unfolding neg finite
neg-finite nan = refl
neg-finite (inf s) = refl
neg-finite (fin s m e) = refl

pub difference_finite : (x y : Float) → finite (x ⊖ y) ≡ true → (finite x ≡ true) × (finite y ≡ true)
unfolding sub
difference_finite x y h = let p = sum-finite x (neg y) h in (p.0, sym (neg-finite y) ∙ p.1)

pub product_finite : (x y : Float) → finite (x ⊗ y) ≡ true → (finite x ≡ true) × (finite y ≡ true)
unfolding mul finite
product_finite nan y h = (cc, cc)
product_finite (inf s) nan h = (cc, cc)
product_finite (inf s) (inf t) h = (cc, cc)
product_finite (inf s) (fin t n d) h = let z : finite (inf s ⊗ fin t n d) ≡ false = neither (eqb n 0) nan _ refl refl in (cc, cc)
product_finite (fin s m e) nan h = (cc, cc)
product_finite (fin s m e) (inf t) h = let z : finite (fin s m e ⊗ inf t) ≡ false = neither (eqb m 0) nan _ refl refl in (cc, cc)
product_finite (fin s m e) (fin t n d) h = (refl, refl)

-- ---- what has a value, and what lies between 0 and a finite number

pub value-finite : (x : Float) (s : Bool) (a c : ℕ) → HasValue x s a c → finite x ≡ true
unfolding finite
value-finite nan s a c v = absurd v
value-finite (inf t) s a c v = absurd v
value-finite (fin t m e) s a c v = refl

pub between_finite : (x y : Float) → T (le f0 x) → T (le x y) → finite y ≡ true → finite x ≡ true
unfolding le lt eq finite of_bits
between_finite nan y a b f = absurd a
between_finite (inf false) nan a b f = absurd b
between_finite (inf false) (inf t) a b f = f
between_finite (inf false) (fin t n e) a b f = absurd b
between_finite (inf true) y a b f = absurd a
between_finite (fin s m e) y a b f = refl
