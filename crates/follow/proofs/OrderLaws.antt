-- The order of two records, in words. Assumes nothing.
use native.Mathlib.Omega.{arith}
use mathlib.Core.Bool.{Bool, true, false, ◌&&◌, ◌||◌, false≢true, and-eq-true_iff}
use mathlib.Core.Logic.{inl, inr}
use mathlib.Core.Path.{◌≡◌, refl, sym, ap, ◌∙◌}
use lib.Dec.{ltb, eqb}
use borrow.Author.Tests.{ltb-true, ltb-false, lt-ltb, le-ltb, eqb-true, eq-eqb}
use Rattle.record.specs.declared.Record.{Record}
use Rattle.follow.specs.Follow.{earlier, Earlier}

pub earlier_says : (r t : Record) → earlier r t ≡ true → Earlier r t
unfolding earlier
earlier_says r t h = go (ltb r.key t.key) refl h
  where
    go : (a : Bool) → ltb r.key t.key ≡ a → (a || (eqb r.key t.key && ltb r.polarity t.polarity)) ≡ true → Earlier r t
    go true e q = inl (ltb-true _ _ e)
    go false e q = let p = (and-eq-true_iff (eqb r.key t.key) (ltb r.polarity t.polarity)).0 q in inr (eqb-true _ _ p.0, ltb-true _ _ p.1)

pub says_earlier : (r t : Record) → Earlier r t → earlier r t ≡ true
unfolding earlier
says_earlier r t (inl h) = rw (lt-ltb _ _ h)
says_earlier r t (inr h) = rw (le-ltb r.key t.key (let e = h.0 in omega arith), eq-eqb r.key t.key h.0, lt-ltb _ _ h.1)

-- a record does not come before one with its own key and polarity, nor before one that comes before it
pub same-not-earlier : (r t : Record) → r.key ≡ t.key → r.polarity ≡ t.polarity → earlier r t ≡ false
unfolding earlier
same-not-earlier r t k p = rw (le-ltb r.key t.key (omega arith), eq-eqb r.key t.key k, le-ltb r.polarity t.polarity (omega arith))

pub one_way : (r t : Record) → Earlier r t → earlier t r ≡ false
one_way r t h = go (earlier t r) refl
  where
    clash : Earlier r t → Earlier t r → ⊥
    clash (inl p) (inl q) = omega arith
    clash (inl p) (inr q) = let e = q.0 in omega arith
    clash (inr p) (inl q) = let e = p.0 in omega arith
    clash (inr p) (inr q) = let a = p.1 in let b = q.1 in omega arith

    go : (x : Bool) → earlier t r ≡ x → x ≡ false
    go true e = absurd (clash h (earlier_says t r e))
    go false e = refl

-- neither before the other: the keys and the polarities are the same
pub neither_earlier : (r t : Record) → earlier r t ≡ false → earlier t r ≡ false → (r.key ≡ t.key) × (r.polarity ≡ t.polarity)
neither_earlier r t h k = go (ltb r.key t.key) refl (ltb t.key r.key) refl (ltb r.polarity t.polarity) refl (ltb t.polarity r.polarity) refl
  where
    not : (x y : Record) → earlier x y ≡ false → Earlier x y → ⊥
    not x y e q = false≢true (sym e ∙ says_earlier x y q)

    go : (a : Bool) → ltb r.key t.key ≡ a → (b : Bool) → ltb t.key r.key ≡ b → (c : Bool) → ltb r.polarity t.polarity ≡ c → (d : Bool) → ltb t.polarity r.polarity ≡ d
        → (r.key ≡ t.key) × (r.polarity ≡ t.polarity)
    go true p b q c u d v = absurd (not r t h (inl (ltb-true _ _ p)))
    go false p true q c u d v = absurd (not t r k (inl (ltb-true _ _ q)))
    go false p false q true u d v = let e : r.key ≡ t.key = omega (arith, ltb-false r.key t.key p, ltb-false t.key r.key q) in absurd (not r t h (inr (e, ltb-true _ _ u)))
    go false p false q false u true v = let e : t.key ≡ r.key = omega (arith, ltb-false r.key t.key p, ltb-false t.key r.key q) in absurd (not t r k (inr (e, ltb-true _ _ v)))
    go false p false q false u false v = (omega (arith, ltb-false r.key t.key p, ltb-false t.key r.key q), omega (arith, ltb-false r.polarity t.polarity u, ltb-false t.polarity r.polarity v))

-- a record does not come before itself
pub not_self : (r t : Record) → r ≡ t → Earlier r t → ⊥
not_self r t e (inl h) = let k : r.key ≡ t.key = ap (λ (x : Record). x.key) e in omega arith
not_self r t e (inr h) = let k : r.polarity ≡ t.polarity = ap (λ (x : Record). x.polarity) e in let l = h.1 in omega arith
